-- Which step a module is at in a clock, and where it stands.
use Rattle.std.proofs.Common.{◌≡◌, ℕ, zero, suc, ◌+◌, ◌<◌, ◌≤◌, true, false, inl, inr, sym, ap, ap₂, ◌∙◌, subst, arith, ◌⊎◌}
use Rattle.std.proofs.lemmas.Bool.{cases_Bool}
use Rattle.timelines.specs.{Design, IsDesign, ready, Trace, IsHistory, can_move, steps, done, since, rest, View, Agrees, from, own}
use Rattle.event_timing.proofs.Steps.{done_more, done_same, done_mono, same_clock, since_more, since_same}
use Rattle.event_timing.proofs.Standing.{since_0, late_ready, steps_moves, step_reached}
use Rattle.event_timing.proofs.{OwnRuns.follows, OwnRuns.rest_own, OwnRuns.done_0, Verdict.early_moves}

-- the clock after the latest step is that of the view
pub since_is : {S : Type 0} → (d : Design S) (h : Trace S) (v : View) → Agrees d h v → (m c : ℕ) → done d h m c ≤ v.timed m
    → since d h m c ≡ from (v.cycle m) (done d h m c)
since_is {S} d h v g m zero l = since_0 d h m ∙ sym (ap (from (v.cycle m)) (done_0 d h m))
since_is {S} d h v g m (suc c) l = later (λ b. since_is d h v g m c b) (cases_Bool (steps d h c m))
  where
    later : (done d h m c ≤ v.timed m → since d h m c ≡ from (v.cycle m) (done d h m c))
        → (steps d h c m ≡ true) ⊎ (steps d h c m ≡ false) → since d h m (suc c) ≡ from (v.cycle m) (done d h m (suc c))
    later ih (inl e) =
        let k : done d h m c < v.timed m = omega (arith, done_more d h m c e) in
        let t = same_clock d h m (v.cycle m (done d h m c)) c (g.steps_then m (done d h m c) k) e (g.done_then m (done d h m c) k) in
        since_more d h m c e ∙ (ap suc (sym t) ∙ sym (ap (from (v.cycle m)) (done_more d h m c e)))
    later ih (inr e) =
        since_same d h m c e
        ∙ (ih (omega (arith, done_same d h m c e)) ∙ sym (ap (from (v.cycle m)) (done_same d h m c e)))

pub rest_is : {S : Type 0} → (d : Design S) (h : Trace S) → IsDesign d → IsHistory d h → (v : View) → Agrees d h v → (m c k : ℕ)
    → done d h m c ≡ k → k ≤ v.timed m → rest d h m c ≡ own d m (v.reply m) k
rest_is {S} d h i y v g m c k e l =
    rest_own d h i y m (v.reply m) c (follows d h v g m c (omega arith)) ∙ ap (own d m (v.reply m)) e

-- the clock in which a module comes to its next step
pub arrives_is : {S : Type 0} → (d : Design S) (h : Trace S) → IsDesign d → IsHistory d h → (v : View) → Agrees d h v → (m c k : ℕ)
    → done d h m c ≡ k → k ≤ v.timed m
    → since d h m c + d.quiet m (rest d h m c) ≡ from (v.cycle m) k + d.quiet m (own d m (v.reply m) k)
arrives_is {S} d h i y v g m c k e l =
    ap₂ (λ (n : ℕ) (s : S). n + d.quiet m s) (since_is d h v g m c (omega arith) ∙ ap (from (v.cycle m)) e)
    (rest_is d h i y v g m c k e l)

-- before that clock it moves
pub moves_before : {S : Type 0} → (d : Design S) (h : Trace S) → IsDesign d → IsHistory d h → (v : View) → Agrees d h v → (m c k : ℕ)
    → done d h m c ≡ k → k ≤ v.timed m → c < from (v.cycle m) k + d.quiet m (own d m (v.reply m) k) → can_move d h c m ≡ true
moves_before {S} d h i y v g m c k e l q =
    early_moves d h i y m c (subst (λ (z : ℕ). c < z) (sym (arrives_is d h i y v g m c k e l)) q)

-- from it on it stands at that step
pub stands_at : {S : Type 0} → (d : Design S) (h : Trace S) → IsDesign d → IsHistory d h → (v : View) → Agrees d h v → (m c k : ℕ)
    → done d h m c ≡ k → k ≤ v.timed m → from (v.cycle m) k + d.quiet m (own d m (v.reply m) k) ≤ c
    → h.state c m ≡ ready d m (own d m (v.reply m) k)
stands_at {S} d h i y v g m c k e l q =
    late_ready d h i y m c (subst (λ (z : ℕ). z ≤ c) (sym (arrives_is d h i y v g m c k e l)) q)
    ∙ ap (ready d m) (rest_is d h i y v g m c k e l)

-- ---- which step

from_done : {S : Type 0} → (d : Design S) (h : Trace S) (v : View) → Agrees d h v → (m k : ℕ) → k ≤ v.timed m
    → done d h m (from (v.cycle m) k) ≡ k
from_done {S} d h v g m zero l = done_0 d h m
from_done {S} d h v g m (suc k) l =
    done_more d h m (v.cycle m k) (g.steps_then m k (omega arith)) ∙ ap suc (g.done_then m k (omega arith))

-- from the clock after the step before up to its own cycle it is step k
pub at_step : {S : Type 0} → (d : Design S) (h : Trace S) (v : View) → Agrees d h v → (m k c : ℕ) → k < v.timed m
    → from (v.cycle m) k ≤ c → c ≤ v.cycle m k → done d h m c ≡ k
at_step {S} d h v g m k c l a b =
    omega (
      arith,
      done_mono d h m (from (v.cycle m) k) c a,
      from_done d h v g m k (omega arith),
      done_mono d h m c (v.cycle m k) b,
      g.done_then m k l,
    )

-- and after the last cycle it is the first step without one, as long as no other is done
pub at_last : {S : Type 0} → (d : Design S) (h : Trace S) (v : View) → Agrees d h v → (m c : ℕ)
    → from (v.cycle m) (v.timed m) ≤ c → done d h m c ≤ v.timed m → done d h m c ≡ v.timed m
at_last {S} d h v g m c a b =
    omega (arith, done_mono d h m (from (v.cycle m) (v.timed m)) c a, from_done d h v g m (v.timed m) (omega arith))

-- in its cycle a step moves
pub moves_then : {S : Type 0} → (d : Design S) (h : Trace S) (v : View) → Agrees d h v → (m k : ℕ) → k < v.timed m
    → can_move d h (v.cycle m k) m ≡ true
moves_then {S} d h v g m k l = steps_moves d h (v.cycle m k) m (g.steps_then m k l)

-- it comes to a step with a cycle in that cycle or before
pub arrives_before : {S : Type 0} → (d : Design S) (h : Trace S) → IsDesign d → IsHistory d h → (v : View) → Agrees d h v → (m k : ℕ)
    → k < v.timed m → from (v.cycle m) k + d.quiet m (own d m (v.reply m) k) ≤ v.cycle m k
arrives_before {S} d h i y v g m k l =
    subst (λ (z : ℕ). z ≤ v.cycle m k) (arrives_is d h i y v g m (v.cycle m k) k (g.done_then m k l) (omega arith))
    (step_reached d h i y m (v.cycle m k) (g.steps_then m k l))
