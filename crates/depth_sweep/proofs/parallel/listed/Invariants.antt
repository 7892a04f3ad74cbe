use Rattle.std.proofs.Common.{◌≡◌}
use Rattle.depth_sweep.proofs.parallel.listed.Given as goal

abbrev pub invariant-loop-point : goal.invariant-loop-point
invariant-loop-point l = l.list ≡ l.yielded
