use Rattle.std.proofs.Common.{ℕ, ◌<◌, ◌≤◌}
use Rattle.cycle_changes.specs.{step_of, held_in, IsLooked, HasAccessAt}
use Rattle.cycle_changes.proofs.reach.are_right_in.Given as goal

abbrev pub invariant-loop-step : goal.invariant-loop-step
invariant-loop-step l =
    (k : ℕ) → l.first ≤ k → k < l.step
    → HasAccessAt l.port.side l.port.channel (step_of (held_in l.engine) l.owner k)
    → IsLooked (held_in l.engine) l.owner k
