-- The next local clock with work.
use Rattle.std.proofs.Common.{◌≡◌, refl, sym, ◌∙◌, ap, ap₂, subst, arith, zero-add, ℕ, zero, suc, ◌+◌, ◌-◌, ◌*◌, ◌/◌, ◌%◌, ◌<◌, ◌≤◌, inl}
use Rattle.std.proofs.Common.{inr, length, map, get_or, Bool, true, false, cond}
use Rattle.std.proofs.{Math.Nat.div-mul-le_self, lemmas.Bool.cases_lt, lemmas.List.length-map, lemmas.List.get_or-map}
use Rattle.std.proofs.{lemmas.List.get_or_default, lemmas.List.Sorted.Contains-permutation, lemmas.List.Sorted.IsPermutation-sym}
use Rattle.std.proofs.lemmas.Nat.{div-add-mod', mod_below, div-mul-add, mod-mul-add, le-div}
use Rattle.std.proofs.lemmas.List.FromFn.{get_or-enumerate_from, length-enumerate_from}
use Rattle.std.specs.{Prelude.Contains, Prelude.All, List.enumerate_from}
use Rattle.flow_design.specs.declared.limits.TheConstants.{LIVE_ITERATIONS}
use Rattle.block_schedule.specs.{Timed, Block, Control, no_operation, interval, live_count, ages, IsLive, Schedule, Slot, rank, slot_of}
use Rattle.block_schedule.specs.{KeepsLimits, IsScheduleOf, at_clock, HasOperationAt, HasOperation, HasWork, IsNextDue, StandsIn}
use Rattle.block_schedule.specs.{HasOperationIn, IsNextPhase, HasNoPhase}
use Rattle.lockstep_defs.proofs.Live.{live_iff, are_ages}
use Rattle.block_schedule.proofs.Ranks.{few_whole, rank_is, rank_parts}

-- the age of the iteration that started so many intervals before the newest one
abbrev pub age_of : Block → Control → ℕ → ℕ
age_of b k older = (k.clock - k.newest) + older * interval b

-- ---- iterations with an operation

-- each live iteration started so many intervals before the newest one
from_ages : (b : Block) (k : Control) (age : ℕ) → Contains (ages b k) age
    → (older : ℕ) × ((older < live_count b k) × (age ≡ age_of b k older))
from_ages b k age (n, l, e) =
    let inside : n < live_count b k = omega (arith, (are_ages b k).count) in
    (live_count b k - 1 - n, (omega arith, sym e ∙ (are_ages b k).each n age inside))

-- and the other way round
to_ages : (b : Block) (k : Control) (older : ℕ) → older < live_count b k → Contains (ages b k) (age_of b k older)
to_ages b k older l =
    let place : live_count b k - 1 - older < live_count b k = omega arith in
    let back : live_count b k - 1 - (live_count b k - 1 - older) ≡ older = omega arith in (
      live_count b k - 1 - older,
      omega (arith, (are_ages b k).count),
      (are_ages b k).each (live_count b k - 1 - older) (age_of b k older) place ∙ ap (λ (j : ℕ). age_of b k j) back,
    )

-- an offset is below LEN
in_len : (b : Block) (offset : ℕ) → All (λ t. t.offset < b.len) b.ops → HasOperationAt b offset → offset < b.len
in_len b offset below (n, l, e) =
    let inside : n < length b.ops = rw length-map at l in
    let t : Timed = get_or b.ops n no_operation in
    let read : get_or (map (λ (u : Timed). u.offset) b.ops) n offset
    ≡ t.offset = get_or-map (λ (u : Timed). u.offset) b.ops n no_operation offset inside in
    let small : t.offset < b.len = below n no_operation inside in
    omega arith

-- an iteration that is live now has an operation at a later local clock, at which it is then still live
has_later : (b : Block) (k : Control) (c older : ℕ) → 1 ≤ interval b → All (λ t. t.offset < b.len) b.ops → k.newest ≤ k.clock → k.clock ≤ c
    → older < live_count b k
    → HasOperationAt b (age_of b k older + (c - k.clock)) → HasOperation b (at_clock k c)
has_later b k c older some below started later live has =
    let was : IsLive b k older = (live_iff b k older (omega arith)).0 live in
    let sum : age_of b k older + (c - k.clock) ≡ (c - k.newest) + older * interval b = omega arith in
    let here : HasOperationAt b ((c - k.newest) + older * interval b) = subst (HasOperationAt b) sum has in
    let still : IsLive b (at_clock k c) older = record { has_started = was.has_started; is_young = in_len b _ below here } in
    record {
      age = (c - k.newest) + older * interval b;
      is_live = to_ages b (at_clock k c) older ((live_iff b (at_clock k c) older (omega arith)).1 still);
      operation = here;
    }

-- an iteration with an operation at a later local clock is live now
had_before : (b : Block) (k : Control) (c : ℕ) → 1 ≤ interval b → k.newest ≤ k.clock → k.clock ≤ c → HasOperation b (at_clock k c)
    → (older : ℕ) × ((older < live_count b k) × HasOperationAt b (age_of b k older + (c - k.clock)))
had_before b k c some started later h =
    let (older, (live, is)) = from_ages b (at_clock k c) h.age h.is_live in
    let then : IsLive b (at_clock k c) older = (live_iff b (at_clock k c) older (omega arith)).0 live in
    let young : (c - k.newest) + older * interval b < b.len = then.is_young in
    let now : IsLive b k older = record { has_started = then.has_started; is_young = omega arith } in
    let sum : h.age ≡ age_of b k older + (c - k.clock) = is ∙ omega arith in
    (older, ((live_iff b k older (omega arith)).1 now, subst (HasOperationAt b) sum h.operation))

-- ---- phases

-- the whole II that a slot's offset has
abbrev pub age_in : Slot → ℕ
age_in t = LIVE_ITERATIONS - 1 - t.rank % LIVE_ITERATIONS

-- a slot at the age of one of so many live iterations, of which the newest has been live for so many whole II
pub record IsAtAge (whole live : ℕ) (t : Slot) : Type 0 where
  pub from : whole ≤ age_in t
  pub to : age_in t - whole < live

-- the slot of the n-th operation
slot_at : (b : Block) (n : ℕ) (d : Slot) → n < length b.ops
    → get_or (map (slot_of (interval b)) (enumerate_from 0 b.ops)) n d ≡ slot_of (interval b) (n, get_or b.ops n no_operation)
slot_at b n d l =
    let inside : n < length (enumerate_from 0 b.ops) = omega (arith, length-enumerate_from 0 b.ops) in
    get_or-map (slot_of (interval b)) (enumerate_from 0 b.ops) n (0, no_operation) d inside
    ∙ ap (slot_of (interval b)) (get_or-enumerate_from 0 b.ops n (0, no_operation) l
    ∙ ap (λ (k : ℕ). (k, get_or b.ops n no_operation)) (zero-add n))

count_of : (b : Block) → length (map (slot_of (interval b)) (enumerate_from 0 b.ops)) ≡ length b.ops
count_of b = length-map (enumerate_from 0 b.ops) (slot_of (interval b)) ∙ length-enumerate_from 0 b.ops

-- a slot of this phase, and of the age of one of so many live iterations
pub record IsSlotIn (s : Schedule) (whole live phase k : ℕ) : Type 0 where
  pub inside : k < length s.slots.items
  pub phase_is : (d : Slot) → (get_or s.slots.items k d).rank / LIVE_ITERATIONS ≡ phase
  pub at_age : (d : Slot) → IsAtAge whole live (get_or s.slots.items k d)

-- the slot of an operation that one of them has in this phase
pub to_slot : (b : Block) (s : Schedule) (whole live phase : ℕ) → IsScheduleOf b s → phase < interval b → HasOperationIn b whole live phase
    → (k : ℕ) × IsSlotIn s whole live phase k
to_slot b s whole live phase is small (older, (below, (n, l, e))) =
    let ii : ℕ = interval b in
    let age : ℕ = whole + older in
    let there : n < length b.ops = rw length-map at l in
    let t : Timed = get_or b.ops n no_operation in
    let offset : t.offset ≡ phase + age * ii =
    sym (get_or-map (λ (u : Timed). u.offset) b.ops n no_operation (phase + age * ii) there) ∙ e in
    let own : t.offset < b.len = is.limits.in_block n no_operation there in
    let span = is.limits.span in
    let within : phase + age * ii < LIVE_ITERATIONS * ii = omega arith in
    let order : phase + age * ii ≡ age * ii + phase = omega arith in
    let quotient : (phase + age * ii) / ii ≡ age = ap (λ (x : ℕ). x / ii) order ∙ div-mul-add age ii phase small in
    let few : age < LIVE_ITERATIONS = omega (arith, few_whole ii (phase + age * ii) is.limits.some within) in
    let made : Slot = slot_of ii (n, t) in
    let rank_of : made.rank ≡ phase * LIVE_ITERATIONS + (LIVE_ITERATIONS - 1 - age) = ap (rank ii) offset ∙ rank_is ii phase age small in
    let (k, inside, found) = Contains-permutation _ _ made is.slots (n, omega (arith, count_of b), slot_at b n made there) in
    let read : (d : Slot) → (get_or s.slots.items k d).rank ≡ phase * LIVE_ITERATIONS + (LIVE_ITERATIONS - 1 - age) = λ d.
    ap (λ (u : Slot). u.rank) (get_or_default s.slots.items k d made inside ∙ found) ∙ rank_of in
    let last : (d : Slot) → (get_or s.slots.items k d).rank % LIVE_ITERATIONS ≡ LIVE_ITERATIONS - 1 - age = λ d.
    ap (λ (r : ℕ). r % LIVE_ITERATIONS) (read d) ∙ mod-mul-add phase LIVE_ITERATIONS (LIVE_ITERATIONS - 1 - age) (omega arith) in (
      k,
      record {
        inside = inside;
        phase_is = λ d. ap (λ (r : ℕ). r / LIVE_ITERATIONS) (read d)
            ∙ div-mul-add phase LIVE_ITERATIONS (LIVE_ITERATIONS - 1 - age) (omega arith);
        at_age = λ d. record { from = omega (arith, last d); to = omega (arith, last d) };
      },
    )

-- the operation of a slot
pub from_slot : (b : Block) (s : Schedule) (whole live k : ℕ) (d : Slot) → IsScheduleOf b s → k < length s.slots.items
    → IsAtAge whole live (get_or s.slots.items k d)
    → ((get_or s.slots.items k d).rank / LIVE_ITERATIONS < interval b)
    × HasOperationIn b whole live ((get_or s.slots.items k d).rank / LIVE_ITERATIONS)
from_slot b s whole live k d is inside at =
    let ii : ℕ = interval b in
    let found : Slot = get_or s.slots.items k d in
    let (n, l, e) = Contains-permutation _ _ found (IsPermutation-sym _ _ is.slots)
    (k, inside, get_or_default s.slots.items k found d inside) in
    let there : n < length b.ops = omega (arith, count_of b) in
    let t : Timed = get_or b.ops n no_operation in
    let rank_of : found.rank ≡ rank ii t.offset = ap (λ (u : Slot). u.rank) (sym e ∙ slot_at b n found there) in
    let own : t.offset < b.len = is.limits.in_block n no_operation there in
    let span = is.limits.span in
    let within : t.offset < LIVE_ITERATIONS * ii = omega arith in
    let parts = rank_parts ii t.offset is.limits.some within in
    let few = few_whole ii t.offset is.limits.some within in
    let phase : found.rank / LIVE_ITERATIONS ≡ t.offset % ii = ap (λ (r : ℕ). r / LIVE_ITERATIONS) rank_of ∙ parts.0 in
    let last : found.rank % LIVE_ITERATIONS ≡ LIVE_ITERATIONS - 1 - t.offset / ii = ap (λ (r : ℕ). r % LIVE_ITERATIONS) rank_of ∙ parts.1 in
    let from = at.from in
    let age : whole + (age_in found - whole) ≡ t.offset / ii = omega arith in
    let sum : found.rank / LIVE_ITERATIONS + (whole + (age_in found - whole)) * ii ≡ t.offset =
    ap₂ (λ (p a : ℕ). p + a * ii) phase age ∙ omega (arith, div-add-mod' t.offset ii) in
    let has : HasOperationAt b t.offset =
    (n, rw length-map there, get_or-map (λ (u : Timed). u.offset) b.ops n no_operation t.offset there) in (
      rw phase (mod_below t.offset ii is.limits.some),
      (age_in found - whole, (at.to, subst (HasOperationAt b) (sym sum) has)),
    )

-- ---- the first slot that is at such an age

-- no slot of such an age from one place on and before another
abbrev pub NoneAtAge : Schedule → ℕ → ℕ → ℕ → ℕ → Type 0
NoneAtAge s whole live from to = (k : ℕ) (d : Slot) → from ≤ k → k < to → ¬ IsAtAge whole live (get_or s.slots.items k d)

-- the slots before this place are of earlier phases, the others are not
pub record IsPlaceOf (s : Schedule) (phase place : ℕ) : Type 0 where
  pub below : (k : ℕ) (d : Slot) → k < place → (get_or s.slots.items k d).rank < phase * LIVE_ITERATIONS
  pub rest : (k : ℕ) (d : Slot) → place ≤ k → k < length s.slots.items → phase * LIVE_ITERATIONS ≤ (get_or s.slots.items k d).rank

none_to : (b : Block) (s : Schedule) (whole live phase place upto p : ℕ) → IsScheduleOf b s → IsPlaceOf s phase place
    → NoneAtAge s whole live place upto → phase ≤ p → p < interval b
    → HasOperationIn b whole live p → (k : ℕ) × (IsSlotIn s whole live p k × (upto ≤ k))
none_to b s whole live phase place upto p is at none from small has =
    let (k, found) = to_slot b s whole live p is small has in
    let d : Slot = record { rank = 0; op = 0 } in
    let whole_is : p * LIVE_ITERATIONS ≤ (get_or s.slots.items k d).rank =
    omega (arith, found.phase_is d, div-mul-le_self (get_or s.slots.items k d).rank LIVE_ITERATIONS) in
    elim (cases_lt k place) [
      | inl before ↦ let low = at.below k d before in absurd (omega arith)
      | inr after ↦ elim (cases_lt k upto) [
        | inl early ↦ absurd (none k d after early (found.at_age d))
        | inr late ↦ (k, (found, late))
      ]
    ]

pub next_phase : (b : Block) (s : Schedule) (whole live phase place k : ℕ) (t : Slot) → IsScheduleOf b s → IsPlaceOf s phase place
    → NoneAtAge s whole live place k → place ≤ k → k < length s.slots.items → t ≡ get_or s.slots.items k t → IsAtAge whole live t
    → IsNextPhase b whole live phase (t.rank / LIVE_ITERATIONS)
next_phase b s whole live phase place k t is at none after inside read due =
    let own = from_slot b s whole live k t is inside (subst (IsAtAge whole live) read due) in
    let same : t.rank ≡ (get_or s.slots.items k t).rank = ap (λ (u : Slot). u.rank) read in
    let first : phase * LIVE_ITERATIONS ≤ t.rank = omega (arith, at.rest k t after inside) in
    let quotient : (get_or s.slots.items k t).rank / LIVE_ITERATIONS ≡ t.rank / LIVE_ITERATIONS =
    ap (λ (r : ℕ). r / LIVE_ITERATIONS) (sym same) in
    record {
      from = le-div phase t.rank LIVE_ITERATIONS (omega arith) first;
      inside = omega (arith, own.0);
      operation = subst (HasOperationIn b whole live) quotient own.1;
      none_before = λ p from earlier has.
          let (j, (found, later)) = none_to b s whole live phase place k p is at none from (omega (arith, own.0)) has in
          let rises : (get_or s.slots.items k t).rank ≤ (get_or s.slots.items j t).rank = is.in_order k j t later found.inside in
          let quotients = le_quotients (get_or s.slots.items k t).rank (get_or s.slots.items j t).rank rises in
          let phase_of = found.phase_is t in
          omega arith;
    }
  where
    le_quotients : (x y : ℕ) → x ≤ y → x / LIVE_ITERATIONS ≤ y / LIVE_ITERATIONS
    le_quotients x y le =
        le-div (x / LIVE_ITERATIONS) y LIVE_ITERATIONS (omega arith) (omega (arith, div-mul-le_self x LIVE_ITERATIONS))

pub no_phase : (b : Block) (s : Schedule) (whole live phase place : ℕ) → IsScheduleOf b s → IsPlaceOf s phase place
    → NoneAtAge s whole live place (length s.slots.items) → HasNoPhase b whole live phase
no_phase b s whole live phase place is at none p from small has =
    let (k, (found, late)) = none_to b s whole live phase place (length s.slots.items) p is at none from small has in
    let inside = found.inside in
    omega arith

-- ---- one round of phases after another

-- the decision or the block's end
abbrev pub turn_of : Block → Control → ℕ
turn_of b k = k.newest + cond k.looping (interval b) b.len

-- from the control's clock on and before this one no live iteration has an operation
abbrev pub IsQuietTill : Block → Control → ℕ → Type 0
IsQuietTill b k upto = (c : ℕ) → k.clock ≤ c → c < upto → ¬ HasOperation b (at_clock k c)

-- a round of phases began so many whole II after the newest start, and up to one of its phases it was quiet
pub record IsRound (b : Block) (k : Control) (whole start phase : ℕ) : Type 0 where
  pub began : start ≡ k.newest + whole * interval b
  pub later : k.clock ≤ start + phase
  pub inside : phase ≤ interval b
  pub quiet : IsQuietTill b k (start + phase)

-- a live iteration's operation at a clock of the round is in the clock's phase
in_phase : (b : Block) (k : Control) (whole start p : ℕ) → 1 ≤ interval b → k.newest ≤ k.clock → start ≡ k.newest + whole * interval b
    → k.clock ≤ start + p → HasOperation b (at_clock k (start + p)) → HasOperationIn b whole (live_count b k) p
in_phase b k whole start p some started began later has =
    let (older, (live, at)) = had_before b k (start + p) some started later has in
    let sum : age_of b k older + (start + p - k.clock) ≡ p + (whole + older) * interval b = omega arith in
    (older, (live, subst (HasOperationAt b) sum at))

-- and the other way round
from_phase : (b : Block) (k : Control) (whole start p : ℕ) → 1 ≤ interval b → All (λ t. t.offset < b.len) b.ops → k.newest ≤ k.clock
    → start ≡ k.newest + whole * interval b → k.clock ≤ start + p → HasOperationIn b whole (live_count b k) p
    → HasOperation b (at_clock k (start + p))
from_phase b k whole start p some below started began later (older, (live, at)) =
    let sum : p + (whole + older) * interval b ≡ age_of b k older + (start + p - k.clock) = omega arith in
    has_later b k (start + p) older some below started later live (subst (HasOperationAt b) sum at)

pub next_round : (b : Block) (k : Control) (whole start phase : ℕ) → 1 ≤ interval b → k.newest ≤ k.clock → IsRound b k whole start phase
    → HasNoPhase b whole (live_count b k) phase → IsRound b k (whole + 1) (start + interval b) 0
next_round b k whole start phase some started round none = record {
  began = let began = round.began in omega arith;
  later = let later = round.later in let inside = round.inside in omega arith;
  inside = omega arith;
  quiet = quiet;
}
  where
    quiet : IsQuietTill b k (start + interval b + 0)
    quiet c later earlier has = elim (cases_lt c (start + phase)) [
      | inl early ↦ round.quiet c later early has
      | inr late ↦
          let p : ℕ = c - start in
          let same : start + p ≡ c = omega arith in
          none p (omega arith) (omega arith)
          (in_phase b k whole start p some started round.began (omega arith)
          (subst (λ (x : ℕ). HasOperation b (at_clock k x)) (sym same) has))
    ]

-- the first operation of a round that begins before the turn
pub found_next : (b : Block) (k : Control) (whole start phase next : ℕ) → KeepsLimits b → StandsIn b k → IsRound b k whole start phase
    → start < turn_of b k → IsNextPhase b whole (live_count b k) phase next → IsNextDue b k (start + next)
found_next b k whole start phase next limits stands round before found =
    let later = round.later in
    let from = found.from in record {
      from = omega arith;
      work = inl (from_phase b k whole start next limits.some limits.in_block stands.has_started round.began (omega arith) found.operation);
      idle_before = idle;
    }
  where
    one_round : (w : ℕ) → start ≡ k.newest + w * interval b → start < k.newest + interval b → start ≡ k.newest
    one_round zero began less = omega arith
    one_round (suc w) began less = absurd (omega arith)

    in_block : HasOperationIn b whole (live_count b k) next → start + next < k.newest + b.len
    in_block (older, (live, at)) =
        let offset = in_len b (next + (whole + older) * interval b) limits.in_block at in
        let began = round.began in
        omega arith

    idle : (c : ℕ) → k.clock ≤ c → c < start + next → ¬ HasWork b (at_clock k c)
    idle c later earlier (inl has) = elim (cases_lt c (start + phase)) [
      | inl early ↦ round.quiet c later early has
      | inr late ↦
          let p : ℕ = c - start in
          let same : start + p ≡ c = omega arith in
          found.none_before p (omega arith) (omega arith)
          (in_phase b k whole start p limits.some stands.has_started round.began (omega arith)
          (subst (λ (x : ℕ). HasOperation b (at_clock k x)) (sym same) has))
    ]
    idle c later earlier (inr (inl decided)) =
        let turn : turn_of b k ≡ k.newest + interval b = rw decided.goes_on refl in
        let first = one_round whole round.began (omega arith) in
        let inside = found.inside in
        omega (arith, decided.is_old)
    idle c later earlier (inr (inr over)) = omega (arith, over.is_old, in_block found.operation)

-- the turn, where no round begins before it
pub turn_next : (b : Block) (k : Control) (whole start phase : ℕ) → StandsIn b k → IsRound b k whole start phase → turn_of b k ≤ start
    → IsNextDue b k (turn_of b k)
turn_next b k whole start phase stands round after =
    let at = turn_there k.looping refl in record {
      from = at.0;
      work = at.1;
      idle_before = idle;
    }
  where
    turn_there : (l : Bool) → k.looping ≡ l → (k.clock ≤ turn_of b k) × HasWork b (at_clock k (turn_of b k))
    turn_there true e =
        let near = stands.undecided e in
        (rw e near, inr (inl (record { goes_on = e; is_old = rw e refl })))
    turn_there false e =
        let near = stands.is_young e in
        (rw e (omega arith), inr (inr (record { is_last = e; is_old = rw e (omega arith) })))

    idle : (c : ℕ) → k.clock ≤ c → c < turn_of b k → ¬ HasWork b (at_clock k c)
    idle c later earlier (inl has) = round.quiet c later (omega arith) has
    idle c later earlier (inr (inl decided)) =
        let turn : turn_of b k ≡ k.newest + interval b = rw decided.goes_on refl in
        omega (arith, decided.is_old)
    idle c later earlier (inr (inr over)) =
        let turn : turn_of b k ≡ k.newest + b.len = rw over.is_last refl in
        omega (arith, over.is_old)
