use Rattle.std.proofs.Common.{◌≡◌, ◌^◌, ◌≤◌}
use Rattle.depth_sweep.proofs.shape.power.Given as goal

abbrev pub invariant-loop-factor : goal.invariant-loop-factor
invariant-loop-factor l = record {
  power : l.product ≡ l.base ^ l._factor;
  small : l.product ≤ 4096;
}
