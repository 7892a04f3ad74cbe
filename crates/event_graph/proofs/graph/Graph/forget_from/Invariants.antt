use Rattle.event_graph.proofs.Forgetting.{IsForgetting}
use Rattle.event_graph.proofs.graph.Graph.forget_from.Given as goal

-- the lanes so far have forgotten
abbrev pub invariant-loop-lane : goal.invariant-loop-lane
invariant-loop-lane l = IsForgetting l.cycle l.lane-index l.initial.lane-items l.lane-items
