use Rattle.std.proofs.Common.{◌≡◌, map}
use Rattle.std.specs.{Prelude.All, List.filter, List.range_with_len}
use Rattle.vcd_wave.specs.{is_fifo, kind_at, StandsBy}
use Rattle.vcd_wave.proofs.walk.fifo_walks.Given as goal

abbrev pub invariant-loop-number : goal.invariant-loop-number
invariant-loop-number l = record {
  channels : map (λ w. w.channel) l.walks
      ≡ filter (λ f. is_fifo (kind_at l.core.plan f)) (range_with_len 0 l.number);
  each : All (StandsBy l.core.plan 0) l.walks;
}
