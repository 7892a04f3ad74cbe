use Rattle.depth_cuts.specs.{MeetsBetween}
use Rattle.depth_cuts.proofs.cuts.first_unmet.Given as goal

abbrev pub invariant-loop-place : goal.invariant-loop-place
invariant-loop-place l = MeetsBetween l.cuts l.fn.from l.place l.depths
