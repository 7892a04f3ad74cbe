use Rattle.std.proofs.Common.{◌≡◌, take}
use Rattle.module_interp.proofs.run.accesses_of.Given as goal

-- the accesses so far
abbrev pub invariant-loop-access : goal.invariant-loop-access
invariant-loop-access l = l.copy ≡ take l.access-index l.accesses
