use Rattle.std.proofs.Common.{◌≤◌, ◌++◌, map, take}
use Rattle.trace_text.specs.{span_event, further, IsTold}
use Rattle.trace_text.proofs.events.write_spans.Given as goal

abbrev pub invariant-loop-span : goal.invariant-loop-span
invariant-loop-span g l = record {
  told : IsTold (g.K.Sink.held l.fn.sink) (g.K.Sink.held l.sink) l.pending
      (l.fn.pending ++ further (map (span_event l.design l.number) (take l.span-index l.spans)));
  faults : g.K.Sink.faults l.fn.sink ≤ g.K.Sink.faults l.sink;
}
