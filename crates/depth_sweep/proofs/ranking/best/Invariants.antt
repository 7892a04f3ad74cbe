use Rattle.depth_sweep.specs.{IsBestKept}
use Rattle.depth_sweep.proofs.ranking.best.Given as goal

abbrev pub invariant-loop-place : goal.invariant-loop-place
invariant-loop-place l = IsBestKept l.points l.place l.kept
