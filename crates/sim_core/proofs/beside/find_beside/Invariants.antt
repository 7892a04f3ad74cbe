use Rattle.sim_core.specs.{AreBesideTo, SetHasRoom}
use Rattle.sim_core.proofs.beside.find_beside.Given as goal

abbrev pub invariant-loop-owner : goal.invariant-loop-owner
invariant-loop-owner l = AreBesideTo l.plan l.owner l.beside × SetHasRoom l.plan l.set
