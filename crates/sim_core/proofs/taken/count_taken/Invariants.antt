use Rattle.std.proofs.Common.{replicate, length}
use Rattle.sim_core.specs.{AreAdded}
use Rattle.sim_core.proofs.Counting.{taken_first}
use Rattle.sim_core.proofs.taken.count_taken.Given as goal

-- the accesses of few steps are counted, and so many of the other marks
abbrev pub invariant-loop-mark : goal.invariant-loop-mark
invariant-loop-mark l = AreAdded l.ports (taken_first l.marks.accesses.items l.marks.others.items l.mark-index)
    (replicate (length l.ports) 0) l.taken
