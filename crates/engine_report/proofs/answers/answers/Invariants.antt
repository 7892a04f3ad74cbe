use Rattle.std.proofs.Common.{◌≡◌, map}
use Rattle.std.specs.List.{range_with_len}
use Rattle.engine_report.specs.{timed_outcomes}
use Rattle.engine_report.proofs.answers.answers.Given as goal

abbrev pub invariant-loop-owner : goal.invariant-loop-owner
invariant-loop-owner l = l.answers ≡ map (timed_outcomes l.engine.graph.lanes l.engine.log.logs) (range_with_len 0 l.owner)
