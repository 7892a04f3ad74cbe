use Rattle.std.proofs.Common.{◌≤◌, ◌++◌, map, take}
use Rattle.trace_text.specs.{text_of_lines, IsTold, access_tokens}
use Rattle.trace_text.proofs.log.write_log.Given as goal

abbrev pub invariant-loop-access : goal.invariant-loop-access
invariant-loop-access g l = record {
  told : IsTold (g.K.Sink.held l.fn.sink) (g.K.Sink.held l.sink) l.pending
      (l.fn.pending ++ text_of_lines (map (access_tokens l.design) (take l.access-index l.log)));
  faults : g.K.Sink.faults l.fn.sink ≤ g.K.Sink.faults l.sink;
}
