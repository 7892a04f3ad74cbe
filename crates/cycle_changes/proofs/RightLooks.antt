-- A look finds what the theory finds.
use Rattle.std.proofs.Common.{◌≡◌, sym, ap, ap₂, ◌∙◌, ℕ, zero, suc, ◌+◌, ◌<◌, ◌≤◌, List, length, map, arith, slice_index_or, refl}
use Rattle.std.specs.Prelude.{All, ◌↔◌}
use Rattle.cycle_changes.specs.{Access, Lane, lane_at, when_possible, Design, IsDesign, from, core_accesses, bound, to_clock, flags_at}
use Rattle.cycle_changes.specs.{step_of, seen, core_of, waited, emitted_of, IsSound, as_known, found_flags, IsRight, known_at, IsLooked}
use Rattle.cycle_changes.specs.{previous_cycle, looked, cycle_held}
use Rattle.event_timing.specs.Core.{Core}
use Rattle.engine_view.specs.Held.{Held}
use Rattle.engine_view.proofs.Bounds.{bound_is, lane_apart, unless}
use Rattle.engine_view.proofs.{Deciding.flags_found, Knowing.access_known_in, Knowing.timed_within}
use Rattle.event_timing.specs.Machines as theory

arrives : (lane : Lane) (k gap : ℕ) → (0 < k → 1 ≤ gap)
    → previous_cycle lane k + gap ≡ from (λ j. slice_index_or lane.cycles j 0) k + waited k gap
arrives lane zero gap g = refl
arrives lane (suc k) gap g = omega (arith, g (omega arith))

module _ {S : Type 0} (d : Design S) (i : IsDesign d) (h : Held) (y : IsSound d h) (m k : ℕ)
    (l : k < length (lane_at h.lanes m).cycles) where
  abbrev x : Core S
  x = core_of d h

  abbrev asked : List Access
  asked = (step_of h m k).accesses

  emitted : k < emitted_of h m
  emitted = omega (arith, timed_within d h y m)

  known : All (λ (a : Access). as_known (when_possible h.lanes h.channels a) ≡ known_at d x m k (seen a)) asked
  known = access_known_in d i h y m k emitted

  same_cycle : looked h m k ≡ to_clock (from (x.cycle m) k + x.wait m k) (bound (known_at d x m k) (core_accesses d x m k))
  same_cycle =
      let is = bound_is h.lanes h.channels (known_at d x m k) asked known in
      let t = arrives (lane_at h.lanes m) k (step_of h m k).gap (lane_apart h.lanes y.sound_lanes m k emitted) in
      unless h.lanes h.channels asked (bound (known_at d x m k) (map seen asked))
      (previous_cycle (lane_at h.lanes m) k + (step_of h m k).gap) is
      ∙ ap₂ (λ (a : ℕ) (xs : List theory.Access). to_clock a (bound (known_at d x m k) xs)) t (sym (y.accesses m k emitted))

  same_flags : (c : ℕ) → flags_at (known_at d x m k) c (core_accesses d x m k) ≡ found_flags h.lanes h.channels c asked
  same_flags c =
      ap (flags_at (known_at d x m k) c) (y.accesses m k emitted) ∙ flags_found h.lanes h.channels (known_at d x m k) c asked known

  pub look_is : IsLooked h m k ↔ IsRight d (core_of d h) m k
  look_is = (
    λ s. record { cycle = sym same_cycle ∙ s.cycle; outcomes = same_flags (cycle_held h m k) ∙ s.outcomes },
    λ r. record { cycle = same_cycle ∙ r.cycle; outcomes = sym (same_flags (cycle_held h m k)) ∙ r.outcomes },
  )
