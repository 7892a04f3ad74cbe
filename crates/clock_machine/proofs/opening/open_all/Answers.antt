use Rattle.clock_machine.specs.{opening}
use Rattle.clock_machine.proofs.opening.open_all.Goals as goal

pub returns-clause-state : goal.returns-clause-state
unfolding opening
returns-clause-state c = λ i. record { modules = c.in_ok-modules.ensures.states i; contents = c.in_ok-contents.ensures i }
