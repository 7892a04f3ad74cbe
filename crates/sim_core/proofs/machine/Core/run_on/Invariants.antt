use Rattle.sim_core.specs.{GoesOn}
use Rattle.sim_core.proofs.machine.Core.run_on.Given as goal

abbrev pub invariant-loop : goal.invariant-loop
invariant-loop g l = GoesOn l.fn.self l.fn.steps l.self l.steps
