use Rattle.std.proofs.Common.{◌≡◌, ◌*◌, ◌≤◌, take}
use Rattle.flow_design.specs.declared.limits.TheConstants.{FIFO_DEPTH}
use Rattle.depth_cuts.specs.{bits_of}
use Rattle.depth_cuts.proofs.order.bits_of.Given as goal

abbrev pub invariant-loop-channel : goal.invariant-loop-channel
invariant-loop-channel l = record {
  value : l.bits ≡ bits_of (take l.channel l.widths) (take l.channel l.depths);
  most : l.bits ≤ 64 * FIFO_DEPTH * l.channel;
}
