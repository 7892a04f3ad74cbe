use Rattle.std.proofs.Common.{◌≡◌}
use Rattle.std.specs.List.{find}
use Rattle.engine_report.specs.{is_waiting}
use Rattle.engine_report.proofs.held.first_waiting.Given as goal

-- the first that waits is among those that are left
abbrev pub invariant-loop-access : goal.invariant-loop-access
invariant-loop-access l =
    find (is_waiting l.engine.graph.lanes l.engine.fifos.channels) l.accesses
    ≡ find (is_waiting l.engine.graph.lanes l.engine.fifos.channels) l.access-iterator
