use Rattle.std.proofs.Common.{◌-◌, length}
use Rattle.module_code.proofs.noting.make_room.Given as goal

abbrev pub invariant-loop-scratch : goal.invariant-loop-scratch
invariant-loop-scratch l = Unit {0}

abbrev pub decreases-loop-scratch : goal.decreases-loop-scratch
decreases-loop-scratch l = l.room - length l.scratch
