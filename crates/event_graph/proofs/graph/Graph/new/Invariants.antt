use Rattle.std.proofs.Common.{◌≡◌, map, replicate}
use Rattle.event_graph.specs.{no_lane, RoomedLane}
use Rattle.event_graph.proofs.graph.Graph.new.Given as goal

-- so many lanes without a step were made
abbrev pub invariant-loop : goal.invariant-loop
invariant-loop l = map (λ (r : RoomedLane). r.lane) l.lanes.items ≡ replicate l.counter no_lane
