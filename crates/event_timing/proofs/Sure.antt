-- Where a step's cycle is determined, each of its known pops has its push among the steps with a cycle.
use Rattle.std.proofs.lemmas.Bool.Decides.{nat_tests}
use Rattle.std.proofs.Common.{◌≡◌, ℕ, suc, ◌+◌, ◌-◌, ◌<◌, ◌≤◌, Bool, true, false, not, ◌||◌, List, [], ◌∷◌, length, sym, refl, ap, ◌∙◌}
use Rattle.std.proofs.Common.{arith, ltb, Option, Some, None, length-append}
use Rattle.event_timing.specs.{Side, Design, IsDesign, Access, Each, Trace, tally, View, new_flags, Known, known, known_of, bound, answer}
use Rattle.event_timing.specs.{flags_at, from_step, candidate, bare_replies, core_accesses, core_tally, core_pushed, core_values}
use Rattle.event_timing.specs.{core_reply, pops_now, all_below, view, IsTimed, elements_timed, pops_timed}
use Rattle.event_timing.specs.{Enablers.Known.From, Enablers.Known.Never, Enablers.Known.Unknown, Core.Core}
use Rattle.flow_word.specs.declared.access.Side.TheVariants.{Pop, Push}
use Rattle.event_timing.proofs.OwnRuns.{tally_mono, IsPlace, place_says, same_side_is}
use Rattle.event_timing.proofs.Threshold.{known_never, known_event, enabler}
use Rattle.event_timing.proofs.{Candidate.both_parts, Candidate.candidate_parts, Values.length_pushed_in, Fronts.core_tally_is}

-- ---- one pop

module _ {S : Type 0} (d : Design S) (v : View) (ch n p : ℕ) (limited : d.unlimited Pop ch ≡ false) where
  -- the module that pushes the channel, and how many pushes it has in steps with a cycle
  abbrev writer : ℕ
  writer = d.owner Push ch

  abbrev timed_pushes : ℕ
  timed_pushes = tally (v.accesses writer) (v.reply writer) Push ch (v.timed writer)

  after_event : (o : Option ℕ) → from_step (v.cycle writer) (d.lag Pop ch) o ≡ From p → d.start Pop ch ≤ n
      → IsPlace (v.accesses writer) (v.reply writer) Push ch (v.timed writer) (n - d.start Pop ch) o → n < d.start Pop ch + timed_pushes
  after_event None e l there = cc
  after_event (Some j) e l (timed, from, to) =
      omega (arith, tally_mono (v.accesses writer) (v.reply writer) Push ch (suc j) (v.timed writer) timed)

  known_sure : known d v Pop ch n ≡ From p → n < d.start Pop ch + timed_pushes
  unfolding enabler
  known_sure e =
      grind (
        arith,
        nat_tests,
        known_never d v Pop ch n,
        known_event d v Pop ch n,
        after_event (enabler d v Pop ch n),
        place_says (v.accesses writer) (v.reply writer) Push ch (v.timed writer) (n - d.start Pop ch),
      )

-- ---- all accesses of a step

answer_from : (k : Known) (c : ℕ) → answer k c ≡ true → (p : ℕ) × (k ≡ From p)
answer_from (From p) c e = (p, refl)
answer_from Never c e = cc
answer_from Unknown c e = cc

-- a pop of which a clock is known is within the first so many elements
abbrev KnownWithin : (Access → Known) → (ℕ → ℕ) → (ℕ → ℕ) → Access → Type 0
KnownWithin know within before a = a.side ≡ Pop → (p : ℕ) → know a ≡ From p → before a.channel < within a.channel

module _ (know : Access → Known) (within before : ℕ → ℕ) (c : ℕ) where
  -- what is found for an access, and that it is within them if it is a pop that is done
  abbrev flag_of : Access → Bool
  flag_of a = a.blocks || answer (know a) c

  abbrev is_within : Access → Bool
  is_within a = not (pops_now a (flag_of a)) || ltb (before a.channel) (within a.channel)

  -- a clock is known of each access that blocks
  bound_rest : (a : Access) (xs : List Access) (u : ℕ) → bound know (a ∷ xs) ≡ From u
      → (q : ℕ) × (bound know xs ≡ From q) × (a.blocks ≡ true → (p : ℕ) × (know a ≡ From p))
  bound_rest a xs u e = grind (arith, both_parts (know a) (bound know xs) u)

  one_within : (a : Access) → KnownWithin know within before a → (a.blocks ≡ true → (p : ℕ) × (know a ≡ From p)) → is_within a ≡ true
  one_within a sure blocking = grind (arith, nat_tests, sure, blocking, answer_from (know a) c, same_side_is a.side Pop)

  flags_within : (xs : List Access) (u : ℕ) → bound know xs ≡ From u → Each (KnownWithin know within before) xs
      → all_below within before xs (flags_at know c xs) ≡ true
  flags_within [] u e sure = refl
  flags_within (a ∷ xs) u e (first, rest) =
      let (q, further, blocking) = bound_rest a xs u e in
      grind (arith, one_within a first blocking, flags_within xs q further rest)

-- ---- those of a core

module _ {S : Type 0} (d : Design S) (i : IsDesign d) (x : Core S) (m : ℕ) where
  abbrev KnownInCore : Access → Type 0
  KnownInCore = KnownWithin (known_of d (view d x) m) (elements_timed d x) (λ ch. core_tally d x m Pop ch (x.timed m))

  one_known : (a : Access) → KnownInCore a
  one_known a side p e =
      let popped : Side → ℕ = λ z. tally (core_accesses d x m) (core_reply d x m) z a.channel (x.timed m) in
      let pop : known d (view d x) Pop a.channel (popped Pop) ≡ From p =
      sym (ap (λ (z : Side). known d (view d x) z a.channel (popped z)) side) ∙ e in
      let less = known_sure d (view d x) a.channel (popped Pop) p (i.pops_limited a.channel) pop in
      let w : ℕ = d.owner Push a.channel in
      rw (core_tally_is d x m Pop a.channel (x.timed m), core_tally_is d x w Push a.channel (x.timed w)) at less

  each_known : (xs : List Access) → Each KnownInCore xs
  each_known [] = tt
  each_known (a ∷ xs) = (one_known a, each_known xs)

  -- so it is with what an Answer, or an Earliest, finds
  pub new_sure : (c : ℕ) → candidate d (view d x) m ≡ Some c → pops_timed d x m (x.timed m) (new_flags d x m c) ≡ true
  new_sure c e =
      let (more, u, bounded, cycle) = candidate_parts d (view d x) m c e in
      flags_within (known_of d (view d x) m) (elements_timed d x) (λ ch. core_tally d x m Pop ch (x.timed m)) c
      (core_accesses d x m (x.timed m)) u bounded (each_known (core_accesses d x m (x.timed m)))

-- pushes with a cycle are emitted, so their values are there
pub sure_values : {S : Type 0} → (d : Design S) (h : Trace S) → IsDesign d → (limit : ℕ) (x : Core S) → IsTimed d h limit x → (ch : ℕ)
    → elements_timed d x ch ≤ length (core_values d x ch)
sure_values {S} d h i limit x u ch =
    let w : ℕ = d.owner Push ch in
    let replies = λ (j : ℕ). bare_replies (x.flags w j) in
    omega (
      arith,
      i.start_inputs ch,
      length-append (d.inputs ch) (core_pushed d x w ch (x.emitted w)),
      length_pushed_in ch (core_accesses d x w) replies (x.emitted w),
      tally_mono (core_accesses d x w) replies Push ch (x.timed w) (x.emitted w) (u.within w),
    )
