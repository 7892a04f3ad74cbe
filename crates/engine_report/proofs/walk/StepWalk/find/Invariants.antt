use Rattle.std.proofs.Common.{◌≡◌}
use Rattle.std.specs.Prelude.{List}
use Rattle.engine_report.specs.{TimedStep, IsWalk, HasGiven}
use Rattle.engine_report.proofs.walk.StepWalk.find.Given as goal

abbrev pub invariant-loop-owner : goal.invariant-loop-owner
invariant-loop-owner l = record {
  walk : IsWalk l.graph.lanes l.self;
  turn : l.self.module ≡ l.owner;
  clock : l.self.clock ≡ l.fn.self.clock;
  given : l.self.given ≡ l.fn.self.given;
  steps : (steps : List TimedStep) → HasGiven l.graph.lanes l.fn.self steps → HasGiven l.graph.lanes l.self steps;
}
