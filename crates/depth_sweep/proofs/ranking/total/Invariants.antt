use Rattle.std.proofs.Common.{◌≡◌, ◌*◌, ◌-◌, ◌^◌, ◌≤◌, sum, take}
use Rattle.depth_sweep.proofs.ranking.total.Given as goal

abbrev pub invariant-loop-depth : goal.invariant-loop-depth
invariant-loop-depth l = record {
  so_far : l.total ≡ sum (take l.depth-index l.depths);
  small : l.total ≤ l.depth-index * (2 ^ 64 - 1);
}
