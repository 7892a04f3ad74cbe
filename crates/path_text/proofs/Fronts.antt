-- The element that a query finds was pushed before.
use Rattle.std.proofs.Common.{◌≡◌, ℕ, suc, ◌+◌, ◌-◌, ◌<◌, ◌≤◌, List, [], ◌∷◌, length, Bool, true, false, not, ◌&&◌, cond, refl, sym, ◌∙◌}
use Rattle.std.proofs.Common.{ap, subst, arith, get_or, inl, inr}
use Rattle.std.proofs.lemmas.Bool.{cases_lt, and_parts, leb-true, not-true}
use Rattle.std.proofs.lemmas.List.Elements.{All-from_recursion}
use Rattle.std.specs.{Prelude.AllPairs, List.filter, List.AllByRecursion}
use Rattle.path_text.specs.{Port, Side, Plan, is_fifo, kind_at, delay_at, FitsEngine, contents_of, is_empty, state, owner, acts, last_clock}
use Rattle.path_text.specs.{before, is_ahead, ArePortClocks, log_of, LoggedAccess, is_missed, access_clocks, moved_at, shifted, moves_at}
use Rattle.path_text.specs.{is_hit, seeks, passing_clocks, front_pushed, AreAccesses}
use Rattle.flow_word.specs.declared.access.Side.TheVariants.{Pop, Push}
use Rattle.lockstep_defs.proofs.Counts.{delay_positive}
use Rattle.port_clocks.proofs.Counts.{before_below, before_most}
use Rattle.stall_text.proofs.Accesses.{on, list_rises, log_is}
use Rattle.stall_text.proofs.{Uses.moved_owner, Uses.log_clocks, Fills.empty_is, Fills.later_before}
use Rattle.path_text.proofs.Logged.{IsTold, log_told}

-- ---- a query that found an element

pub record IsHit (p : Plan) (a : LoggedAccess) : Type 0 where
  pub seeks : seeks a.event.kind ≡ true
  pub there : is_missed a ≡ false
  pub fifo : is_fifo (kind_at p a.event.channel) ≡ true

pub hit_parts : (p : Plan) (a : LoggedAccess) → is_hit p a ≡ true → IsHit p a
hit_parts p a e =
    let outer = and_parts (seeks a.event.kind) (not (is_missed a) && is_fifo (kind_at p a.event.channel)) e in
    let inner = and_parts (not (is_missed a)) (is_fifo (kind_at p a.event.channel)) outer.1 in
    record { seeks = outer.0; there = not-true (is_missed a) inner.0; fifo = inner.1 }

-- ---- clocks of a port

-- they are those in which elements pass it
told_clocks : (p : Plan) (side : Side) (f : ℕ) → ArePortClocks p (on side f) (passing_clocks (log_of p) side f)
unfolding acts
told_clocks p side f =
    subst (ArePortClocks p (on side f)) (sym (ap (λ (log : List LoggedAccess). passing_clocks log side f) (log_is p))) (log_clocks p side f)

pub clocks_rise : (p : Plan) (side : Side) (f : ℕ) → AllPairs (λ a b. a ≤ b) (passing_clocks (log_of p) side f)
unfolding acts
clocks_rise p side f =
    subst (AllPairs (λ a b. a ≤ b)) (sym (ap (λ (log : List LoggedAccess). passing_clocks log side f) (log_is p)))
    (list_rises p (moved_at (on side f)) (last_clock p))

-- who moved an element there moved then
movers : (p : Plan) (port : Port) (log : List LoggedAccess) → AllByRecursion (IsTold p) log
    → AllByRecursion (λ c. moves_at p c (owner p port) ≡ true) (access_clocks (filter (moved_at port) log))
movers p port [] h = tt
movers p port (a ∷ log) h = by_test (moved_at port a) refl (movers p port log h.1)
  where
    by_test : (b : Bool) → moved_at port a ≡ b → AllByRecursion (λ c. moves_at p c (owner p port) ≡ true) (access_clocks (filter (moved_at
        port) log))
        → AllByRecursion (λ c. moves_at p c (owner p port) ≡ true) (access_clocks (cond b (a ∷ filter (moved_at port) log) (filter
        (moved_at port) log)))
    by_test true e rest =
        (subst (λ (m : ℕ). moves_at p a.event.cycle m ≡ true) (moved_owner p port a (h.0).owned e) (h.0).moves, rest)
    by_test false e rest = rest

-- ---- the element at the front

counted_in : (xs : List ℕ) → AllPairs (λ a b. a ≤ b) xs → (k c : ℕ) → k < before xs c → get_or xs k 0 < c
counted_in xs h k c l = elim (cases_lt (get_or xs k 0) c) [
  | inl w ↦ w
  | inr w ↦
      let inside : k < length xs = omega (arith, before_most xs c) in
      absurd (omega (arith, before_below xs h k c inside w))
]

-- the element that a query finds in clock u at the front of channel f: its push was before, and its module moved then
pub record IsFront (p : Plan) (log : List LoggedAccess) (f u : ℕ) : Type 0 where
  pub there : before (passing_clocks log Pop f) u < length (passing_clocks log Push f)
  pub earlier : front_pushed log f u < u
  pub moves : moves_at p (front_pushed log f u) (owner p (record { side = Push; channel = f })) ≡ true

not_false : (b : Bool) → not b ≡ false → b ≡ true
not_false true e = refl
not_false false e = absurd cc

empty_here : (p : Plan) → FitsEngine p → (f : ℕ) → f < length p.design.channels → is_fifo (kind_at p f) ≡ true → (c : ℕ) → c ≤ last_clock p
    → is_empty c (contents_of (state p c).contents f)
    ≡ not (is_ahead 1 (shifted (delay_at p f - 1) (passing_clocks (log_of p) Push f)) (passing_clocks (log_of p) Pop f) c)
empty_here p fits f l fifo c m =
    empty_is p fits f l fifo (passing_clocks (log_of p) Pop f) (passing_clocks (log_of p) Push f) (told_clocks p Pop f) (told_clocks p
    Push f) c m

front_here : (p : Plan) → FitsEngine p → (a : LoggedAccess) → IsTold p a → IsHit p a → IsFront p (log_of p) a.event.channel a.event.cycle
front_here p fits a told hit =
    let f = a.event.channel in
    let u = a.event.cycle in
    let pops = passing_clocks (log_of p) Pop f in
    let pushes = passing_clocks (log_of p) Push f in
    let d = delay_at p f in
    let positive = delay_positive p fits f told.inside in
    let below = told.below in
    let full : is_empty u (contents_of (state p u).contents f) ≡ false = sym (told.missed hit.seeks) ∙ hit.there in
    let ahead : is_ahead 1 (shifted (d - 1) pushes) pops u ≡ true =
    not_false (is_ahead 1 (shifted (d - 1) pushes) pops u) (sym (empty_here p fits f told.inside hit.fifo u (omega arith)) ∙ full) in
    let more : before pops u + 1 ≤ before (shifted (d - 1) pushes) u =
    leb-true (before pops u + 1) (before (shifted (d - 1) pushes) u) ahead in
    let lagged = later_before pushes u d positive in
    let many : before pops u < before pushes (suc u - d) = omega arith in
    let early = counted_in pushes (clocks_rise p Push f) (before pops u) (suc u - d) many in
    let inside : before pops u < length pushes = omega (arith, before_most pushes (suc u - d)) in
    record {
      there = inside;
      earlier = omega arith;
      moves = All-from_recursion (λ c. moves_at p c (owner p (on Push f)) ≡ true) pushes
          (movers p (on Push f) (log_of p) (log_told p fits)) (before pops u) 0 inside;
    }

pub front_is : (p : Plan) → FitsEngine p → (log : List LoggedAccess) → log ≡ log_of p → (a : LoggedAccess) → IsTold p a
    → is_hit p a ≡ true → IsFront p log a.event.channel a.event.cycle
front_is p fits log e a told hit =
    subst (λ (l : List LoggedAccess). IsFront p l a.event.channel a.event.cycle) (sym e) (front_here p fits a told (hit_parts p a hit))

-- ---- a log that may be left out

pub accesses_told : (p : Plan) → FitsEngine p → (log : List LoggedAccess) → AreAccesses p log → AllByRecursion (IsTold p) log
accesses_told p fits log (inl e) = subst (AllByRecursion (IsTold p)) (sym e) tt
accesses_told p fits log (inr e) = subst (AllByRecursion (IsTold p)) (sym e) (log_told p fits)
