use Rattle.std.proofs.Common.{◌≡◌, ◌≤◌, ◌-◌, min}
use Rattle.vcd_wave.specs.{IsTold, AreWalks, least_next}
use Rattle.vcd_wave.proofs.Instants.{told_to}
use Rattle.vcd_wave.proofs.Instants as instants
use Rattle.vcd_wave.proofs.text.write_later.Given as goal

abbrev pub invariant-loop-clock : goal.invariant-loop-clock
invariant-loop-clock g l = record {
  walks : AreWalks l.core.plan (min l.clock l.last) l.walks;
  least : l.clock ≡ least_next l.walks;
  told : instants.IsTold l.core.plan l.told (min l.clock l.last);
  text : IsTold (g.K.Sink.held l.fn.sink) (g.K.Sink.held l.sink) l.pending (told_to l.core.plan l.fn.pending (min l.clock l.last));
  faults : g.K.Sink.faults l.fn.sink ≤ g.K.Sink.faults l.sink;
}

abbrev pub decreases-loop-clock : goal.decreases-loop-clock
decreases-loop-clock g l = l.last - l.clock
