use Rattle.std.proofs.Common.{◌≡◌, map}
use Rattle.std.specs.List.{range_with_len}
use Rattle.engine_report.specs.{standing_at, together}
use Rattle.engine_report.proofs.verdict.verdict.Given as goal

abbrev pub invariant-loop-owner : goal.invariant-loop-owner
invariant-loop-owner l = l.all ≡ together (map (standing_at l.engine.graph.lanes l.engine.fifos.channels l.engine.ends.items)
    (range_with_len 0 l.owner))
