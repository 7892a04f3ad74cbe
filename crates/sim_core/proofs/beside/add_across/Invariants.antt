use Rattle.sim_core.specs.{AreAcrossTo, SetHasRoom}
use Rattle.sim_core.proofs.beside.add_across.Given as goal

abbrev pub invariant-loop-port : goal.invariant-loop-port
invariant-loop-port l = AreAcrossTo l.plan l.ports l.port-index l.set × SetHasRoom l.plan l.set
