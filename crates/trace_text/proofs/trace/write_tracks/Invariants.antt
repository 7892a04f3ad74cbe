use Rattle.std.proofs.Common.{◌≤◌, ◌++◌}
use Rattle.std.specs.List.{flat_map, range_with_len}
use Rattle.trace_text.specs.{span_events, further, IsTold}
use Rattle.trace_text.proofs.trace.write_tracks.Given as goal

abbrev pub invariant-loop-owner : goal.invariant-loop-owner
invariant-loop-owner g l = record {
  told : IsTold (g.K.Sink.held l.fn.sink) (g.K.Sink.held l.sink) l.pending
      (l.fn.pending ++ further (flat_map (span_events l.core.plan) (range_with_len 0 l.owner)));
  faults : g.K.Sink.faults l.fn.sink ≤ g.K.Sink.faults l.sink;
}
