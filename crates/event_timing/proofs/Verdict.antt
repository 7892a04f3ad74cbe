-- The verdict of a final core is that of the history.
use Rattle.std.proofs.Common.{◌≡◌, ℕ, zero, suc, ◌+◌, ◌-◌, ◌<◌, ◌≤◌, min, true, false, inl, inr, refl, ap₂, arith, Some}
use Rattle.std.proofs.lemmas.Bool.{cases_lt}
use Rattle.event_timing.specs.{Design, IsDesign, Trace, IsHistory, can_move, done, since, rest, candidate, IsStuck, from, view, IsAgreed}
use Rattle.event_timing.specs.{IsAtRest, stop, IsUndetermined, IsFinal, Core.Core}
use Rattle.event_timing.proofs.{Steps.done_more, Steps.done_mono, Fronts.agrees, Earliest.nobody_ahead}
use Rattle.event_timing.proofs.Standing.{where_now, since_le, idle_moves, late_ready, moves_lives, steps_from, steps_moves, rest_fits}
use Rattle.event_timing.proofs.Candidate.{begin, done_begin, since_first, rest_first, candidate_steps}
use Rattle.event_timing.proofs.Agreement.{final_stuck, stuck_ended}

pub early_moves : {S : Type 0} → (d : Design S) (h : Trace S) → IsDesign d → IsHistory d h → (m c : ℕ)
    → c < since d h m c + d.quiet m (rest d h m c) → can_move d h c m ≡ true
early_moves {S} d h i y m c l =
    let j : min (c - since d h m c) (d.quiet m (rest d h m c)) ≡ c - since d h m c = omega (arith, since_le d h m c) in
    let e = rw j at (where_now d h i y m c) in
    let b : c - since d h m c < d.quiet m (rest d h m c) = omega (arith, since_le d h m c) in
    let a = i.quiet_idle m (rest d h m c) (c - since d h m c) b in
    let o = i.quiet_lives m (rest d h m c) (c - since d h m c) b in
    idle_moves d h c m (rw e o) (rw e a)

stop_then : {S : Type 0} → (d : Design S) (h : Trace S) → IsDesign d → IsHistory d h → (limit : ℕ) (x : Core S) → IsAgreed d h limit x
    → (m c : ℕ) → begin (view d x) m ≤ c → done d h m c ≡ x.timed m → since d h m c + d.quiet m (rest d h m c) ≡ stop d x m
stop_then {S} d h i y limit x g m c l k =
    let a = agrees d h limit x g.marks g.time in
    ap₂ (λ (p : ℕ) (s : S). p + d.quiet m s) (since_first d h (view d x) a m c l k) (rest_first d h i y (view d x) a m c k)

-- before its stop a module moves
before_stop : {S : Type 0} → (d : Design S) (h : Trace S) → IsDesign d → IsHistory d h → (limit : ℕ) (x : Core S) → IsAgreed d h limit x
    → (m c : ℕ) → begin (view d x) m ≤ c → done d h m c ≡ x.timed m → c < stop d x m → can_move d h c m ≡ true
before_stop {S} d h i y limit x g m c l k q = early_moves d h i y m c (rw (stop_then d h i y limit x g m c l k) q)

-- from then on it keeps still, unless it does its next step
after_stop : {S : Type 0} → (d : Design S) (h : Trace S) → IsDesign d → IsHistory d h → (limit : ℕ) (x : Core S) → IsAgreed d h limit x
    → (m c : ℕ) → stop d x m ≤ c → done d h m c ≡ x.timed m → done d h m (suc c) ≤ x.timed m → can_move d h c m ≡ false
after_stop {S} d h i y limit x g m c l k n =
    let e = late_ready d h i y m c (rw (stop_then d h i y limit x g m c (omega arith) k) l) in
    let s = i.quiet_ends m (rest d h m c) (rest_fits d h i y m c) in
    grind (arith, moves_lives d h c m, done_more d h m c, steps_from d h c m)

undetermined_stuck : {S : Type 0} → (d : Design S) (h : Trace S) → IsDesign d → (limit : ℕ) (x : Core S) → IsAgreed d h limit x
    → IsFinal d limit x → IsUndetermined d x → (t : ℕ) → IsStuck d (view d x) t
undetermined_stuck {S} d h i limit x g f u t =
    record { ended = stuck_ended d h i limit x g.marks g.time f.quiet; later = λ m c e. absurd (u m c e) }

pub never_more : {S : Type 0} → (d : Design S) (h : Trace S) → IsDesign d → IsHistory d h → (limit : ℕ) (x : Core S)
    → IsAgreed d h limit x → IsFinal d limit x → IsUndetermined d x → (m c : ℕ) → done d h m c ≤ x.timed m
never_more {S} d h i y limit x g f u m c =
    nobody_ahead d h i y (view d x) (agrees d h limit x g.marks g.time) c (undetermined_stuck d h i limit x g f u c) c (omega arith) m

pub done_last : {S : Type 0} → (d : Design S) (h : Trace S) → IsDesign d → IsHistory d h → (limit : ℕ) (x : Core S)
    → IsAgreed d h limit x → IsFinal d limit x → IsUndetermined d x → (m c : ℕ) → begin (view d x) m ≤ c → done d h m c ≡ x.timed m
done_last {S} d h i y limit x g f u m c l =
    omega (
      arith,
      never_more d h i y limit x g f u m c,
      done_mono d h m (begin (view d x) m) c l,
      done_begin d h (view d x)
          (agrees d h limit x g.marks g.time) m (x.timed m) refl,
    )

-- where no step is determined, nobody moves from the last stop on
pub rests : {S : Type 0} → (d : Design S) (h : Trace S) → IsDesign d → IsHistory d h → (limit : ℕ) (x : Core S) → IsAgreed d h limit x
    → IsFinal d limit x → IsUndetermined d x → (last : ℕ) → ((m : ℕ) → stop d x m ≤ last) → IsAtRest d h last
rests {S} d h i y limit x g f u last s e l m =
    after_stop d h i y limit x g m e (omega (arith, s m)) (done_last d h i y limit x g f u m e (omega (arith, s m)))
    (never_more d h i y limit x g f u m (suc e))

-- and the module of a stop moves in the clock before it
pub moved : {S : Type 0} → (d : Design S) (h : Trace S) → IsDesign d → IsHistory d h → (limit : ℕ) (x : Core S) → IsAgreed d h limit x
    → IsFinal d limit x → IsUndetermined d x → (m c : ℕ) → suc c ≡ stop d x m → can_move d h c m ≡ true
moved {S} d h i y limit x g f u m c e =
    elim (cases_lt c (begin (view d x) m)) [
      | inr w ↦ before_stop d h i y limit x g m c w (done_last d h i y limit x g f u m c w) (omega arith)
      | inl w ↦ step (x.timed m) refl (omega arith)
    ]
  where
    step : (n : ℕ) → n ≡ x.timed m → suc c ≡ from (x.cycle m) n → can_move d h c m ≡ true
    step zero q r = absurd (omega arith)
    step (suc n) q r =
        let k : c ≡ x.cycle m n = omega arith in
        rw k (steps_moves d h (x.cycle m n) m (g.time.steps_then m n (omega arith)))

-- a determined step moves at the limit or later
pub determined_late : {S : Type 0} → (d : Design S) (h : Trace S) → IsDesign d → IsHistory d h → (limit : ℕ) (x : Core S)
    → IsAgreed d h limit x → IsFinal d limit x → (m c : ℕ) → candidate d (view d x) m ≡ Some c → (limit ≤ c) × (can_move d h c m ≡ true)
determined_late {S} d h i y limit x g f m c e = (
  (final_stuck d h i limit x g f).later m c e,
  steps_moves d h c m
      (candidate_steps d h i y (view d x) (agrees d h limit x g.marks g.time) m c e),
)
