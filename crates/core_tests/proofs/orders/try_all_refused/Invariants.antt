use Rattle.std.proofs.Common.{◌≡◌}
use Rattle.core_tests.proofs.orders.try_all_refused.Given as goal

-- nothing has changed
abbrev pub invariant-loop-owner : goal.invariant-loop-owner
invariant-loop-owner g l = l.core ≡ l.fn.core
