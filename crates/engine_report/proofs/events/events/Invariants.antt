use Rattle.std.proofs.Common.{◌≡◌, take}
use Rattle.std.specs.List.{flat_map}
use Rattle.engine_report.specs.{events_at, step_place}
use Rattle.engine_report.proofs.events.events.Given as goal

abbrev pub invariant-loop-key : goal.invariant-loop-key
invariant-loop-key l = l.events ≡ flat_map (λ key. events_at l.graph.lanes (step_place key)) (take l.key-index l.key-items)
