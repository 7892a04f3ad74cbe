use Rattle.std.proofs.Common.{◌+◌, ◌≤◌, take, map}
use Rattle.cycle_changes.specs.{timed_below, cycles_in, steps_in_lanes}
use Rattle.cycle_changes.proofs.changed.count_left.Given as goal

-- so it is of the lanes so far
abbrev pub invariant-loop-owner : goal.invariant-loop-owner
invariant-loop-owner l =
    l.left + cycles_in (map (timed_below l.from) (take l.owner l.graph.lanes)) ≤ steps_in_lanes (take l.owner l.graph.lanes)
