use Rattle.std.proofs.Common.{◌≤◌, ◌++◌}
use Rattle.std.specs.List.{flat_map, range_with_len}
use Rattle.trace_text.specs.{IsTold, further}
use Rattle.trace_text.proofs.Filling.{channel_events}
use Rattle.trace_text.proofs.fills.write_counters.Given as goal

abbrev pub invariant-loop-channel : goal.invariant-loop-channel
invariant-loop-channel g l = record {
  told : IsTold (g.K.Sink.held l.fn.sink) (g.K.Sink.held l.sink) l.pending
      (l.fn.pending ++ further (flat_map (channel_events l.core.plan) (range_with_len 0 l.channel)));
  faults : g.K.Sink.faults l.fn.sink ≤ g.K.Sink.faults l.sink;
}
