use Rattle.std.proofs.Common.{◌-◌, length}
use Rattle.module_code.proofs.noting.make_places.Given as goal

abbrev pub invariant-loop-items : goal.invariant-loop-items
invariant-loop-items l = Unit {0}

abbrev pub decreases-loop-items : goal.decreases-loop-items
decreases-loop-items l = l.places - length l.items
