use Rattle.std.proofs.Common.{◌≡◌, length}
use Rattle.leaf_tests.proofs.graphs.step_with.Given as goal

-- as many accesses as were passed
abbrev pub invariant-loop-access : goal.invariant-loop-access
invariant-loop-access l = length l.accesses ≡ l.access-index
