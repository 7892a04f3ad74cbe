use Rattle.std.proofs.Common.{◌-◌}
use Rattle.engine_report.specs.{past_every_cycle, IsWalk, FoundIn}
use Rattle.engine_report.proofs.walk.StepWalk.advance.Given as goal

abbrev pub invariant-loop-found : goal.invariant-loop-found
invariant-loop-found l = record {
  walk : IsWalk l.graph.lanes l.self;
  found : FoundIn l.graph.lanes l.fn.self l.found l.self;
}

abbrev pub decreases-loop-found : goal.decreases-loop-found
decreases-loop-found l = past_every_cycle - l.self.clock
