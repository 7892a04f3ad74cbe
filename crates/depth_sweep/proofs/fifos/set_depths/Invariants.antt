use Rattle.std.proofs.Common.{◌≡◌, take}
use Rattle.depth_sweep.specs.{plan_after, depth_edits}
use Rattle.depth_sweep.proofs.fifos.set_depths.Given as goal

abbrev pub invariant-loop-at : goal.invariant-loop-at
invariant-loop-at l = l.plan ≡ plan_after l.fn.plan (take l.at (depth_edits l.channels l.depths))
