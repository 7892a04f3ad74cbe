use Rattle.std.proofs.Common.{◌≡◌}
use Rattle.std.specs.List.{range_with_len, filter_map}
use Rattle.engine_report.specs.{held_at_open_step}
use Rattle.engine_report.proofs.held.hold_all.Given as goal

abbrev pub invariant-loop-owner : goal.invariant-loop-owner
invariant-loop-owner l = l.all ≡ filter_map (held_at_open_step l.engine.graph.lanes l.engine.fifos.channels) (range_with_len 0 l.owner)
