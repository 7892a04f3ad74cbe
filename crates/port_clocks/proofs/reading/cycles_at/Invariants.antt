use Rattle.std.proofs.Common.{◌≡◌, ◌<◌, ℕ, length, Some}
use Rattle.std.specs.Prelude.{slice_index}
use Rattle.port_clocks.specs.{channel_at, places_of, cycle_in}
use Rattle.port_clocks.proofs.reading.cycles_at.Given as goal

abbrev pub invariant-loop-number : goal.invariant-loop-number
invariant-loop-number l = record {
  count : length l.cycles ≡ l.number;
  each : (n : ℕ) → n < length l.cycles
      → cycle_in l.engine.graph.lanes (places_of l.port.side (channel_at l.engine.fifos.channels l.port.channel)) n
      ≡ Some (slice_index l.cycles n);
}
