use Rattle.std.proofs.Common.{◌≡◌, ◌<◌}
use Rattle.engine_report.specs.{Plan, clock_of, verdict, lane_at, cycle_bound, held_in, IsFinished, cycle_before, HasPassedSteps}
use Rattle.engine_report.proofs.spans.spans_of.Given as goal

abbrev pub invariant-loop-step : goal.invariant-loop-step
invariant-loop-step l = record {
  last : l.last ≡ cycle_before (lane_at l.engine.graph.lanes l.owner).cycles l.step;
  below : l.last < cycle_bound;
  passed : (p : Plan) → IsFinished p (held_in l.engine) l.engine.ends.items
      → l.clock ≡ clock_of (verdict p) → HasPassedSteps p l.owner l.clock (lane_at l.engine.graph.lanes l.owner).cycles l.step l.spans;
}
