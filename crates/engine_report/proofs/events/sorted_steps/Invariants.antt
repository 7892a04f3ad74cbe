use Rattle.std.proofs.Common.{◌≡◌}
use Rattle.std.specs.List.{range_with_len, flat_map}
use Rattle.engine_report.specs.{keys_of}
use Rattle.engine_report.proofs.events.sorted_steps.Given as goal

abbrev pub invariant-loop-owner : goal.invariant-loop-owner
invariant-loop-owner l = l.keys.items ≡ flat_map (keys_of l.graph.lanes) (range_with_len 0 l.owner)
