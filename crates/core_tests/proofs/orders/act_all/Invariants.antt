use Rattle.core_tests.specs.{AreOwn}
use Rattle.core_tests.proofs.orders.act_all.Given as goal

-- no run is lent
abbrev pub invariant-loop : goal.invariant-loop
invariant-loop g l = AreOwn l.core
