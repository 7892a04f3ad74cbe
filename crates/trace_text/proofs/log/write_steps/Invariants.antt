use Rattle.std.proofs.Common.{◌≤◌}
use Rattle.trace_text.specs.{IsWalk, to_give}
use Rattle.trace_text.proofs.Stepping.{IsTelling}
use Rattle.trace_text.proofs.log.write_steps.Given as goal

abbrev pub invariant-loop-step : goal.invariant-loop-step
invariant-loop-step g l = record {
  walk : IsWalk l.core.held.lanes l.walk;
  telling : IsTelling l.core.plan l.core.held l.walk (g.K.Sink.held l.fn.sink) (g.K.Sink.held l.sink) l.pending l.fn.pending;
  faults : g.K.Sink.faults l.fn.sink ≤ g.K.Sink.faults l.sink;
}

abbrev pub decreases-loop-step : goal.decreases-loop-step
decreases-loop-step g l = to_give l.core.held.lanes l.walk
