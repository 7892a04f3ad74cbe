use Rattle.core_tests.specs.{AreOwn}
use Rattle.core_tests.proofs.actions.answer_after.Given as goal

-- no run is lent
abbrev pub invariant-loop-action : goal.invariant-loop-action
invariant-loop-action g l = AreOwn l.core
