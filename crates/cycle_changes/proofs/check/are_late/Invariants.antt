use Rattle.std.proofs.Common.{◌≡◌, ℕ, ◌<◌, ◌≤◌, Some}
use Rattle.cycle_changes.specs.{determined}
use Rattle.cycle_changes.proofs.check.are_late.Given as goal

abbrev pub invariant-loop-owner : goal.invariant-loop-owner
invariant-loop-owner l =
    (m : ℕ) → m < l.owner → (c : ℕ) → determined l.engine.graph.lanes l.engine.fifos.channels m ≡ Some c → l.limit ≤ c
