use Rattle.std.proofs.Common.{◌≡◌}
use Rattle.turn_lock.specs.{IsSamePass, Passes.view_of, Passes.pass_lock}
use Rattle.leaf_tests.proofs.locks.put_many.Given as goal

abbrev pub invariant-loop-number : goal.invariant-loop-number
invariant-loop-number g l = (pass_lock l.pass ≡ pass_lock l.initial.pass) × IsSamePass (view_of l.initial.pass) (view_of l.pass)
