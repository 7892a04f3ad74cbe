use Rattle.std.proofs.Common.{◌≡◌, ◌++◌, map}
use Rattle.std.specs.List.{range_with_len}
use Rattle.engine_report.specs.{key_of}
use Rattle.engine_report.proofs.events.add_steps.Given as goal

abbrev pub invariant-loop-step : goal.invariant-loop-step
invariant-loop-step l = l.keys.items ≡ l.initial.keys.items ++ map (key_of l.graph.lanes l.owner) (range_with_len 0 l.step)
