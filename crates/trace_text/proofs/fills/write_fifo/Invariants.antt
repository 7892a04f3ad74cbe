use Rattle.std.proofs.Common.{◌≡◌, ◌≤◌, ◌-◌}
use Rattle.trace_text.specs.{IsTold, fill, IsFifoWalk}
use Rattle.trace_text.proofs.Filling.{filled_to}
use Rattle.trace_text.proofs.fills.write_fifo.Given as goal

abbrev pub invariant-loop-name : goal.invariant-loop-name
invariant-loop-name g l = record {
  walk : IsFifoWalk l.core.plan l.walk;
  channel : l.walk.channel ≡ l.channel;
  held : l.held ≡ fill l.core.plan l.channel l.walk.clock;
  told : IsTold (g.K.Sink.held l.fn.sink) (g.K.Sink.held l.sink) l.pending (filled_to l.core.plan l.channel l.fn.pending l.walk.clock);
  faults : g.K.Sink.faults l.fn.sink ≤ g.K.Sink.faults l.sink;
}

abbrev pub decreases-loop-name : goal.decreases-loop-name
decreases-loop-name g l = l.last - l.walk.clock
