use Rattle.std.proofs.Common.{◌≡◌, ◌++◌, length}
use Rattle.engine_report.specs.{HasWaited}
use Rattle.engine_report.proofs.spans.wait.Given as goal

abbrev pub invariant-loop-access : goal.invariant-loop-access
invariant-loop-access l =
    (l.accesses ≡ l.yielded ++ l.access-iterator)
    × HasWaited l.engine.graph.lanes l.engine.fifos.channels l.accesses l.until (length l.yielded) l.initial.spans l.spans
