use Rattle.std.proofs.Common.{◌≡◌, map}
use Rattle.std.specs.List.{range_with_len, filter}
use Rattle.engine_report.specs.{is_sink, kind_at, channel_at, timed_values}
use Rattle.engine_report.proofs.outputs.outputs.Given as goal

abbrev pub invariant-loop-channel : goal.invariant-loop-channel
invariant-loop-channel l = l.outputs ≡ map (λ f. timed_values l.engine.graph.lanes (channel_at l.engine.fifos.channels f).pushes)
    (filter (λ f. is_sink (kind_at l.plan f)) (range_with_len 0 l.channel))
