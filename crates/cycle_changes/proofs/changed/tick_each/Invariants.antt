use Rattle.std.proofs.Common.{◌≡◌, ◌+◌}
use Rattle.cycle_changes.proofs.changed.tick_each.Given as goal

-- a tick for each so far
abbrev pub invariant-loop-tick : goal.invariant-loop-tick
invariant-loop-tick g l = l.steps ≡ l.fn.steps + l._tick
