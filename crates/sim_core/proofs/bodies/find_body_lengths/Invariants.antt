use Rattle.sim_core.specs.{AreBodyLengths}
use Rattle.sim_core.proofs.bodies.find_body_lengths.Given as goal

abbrev pub invariant-loop-of : goal.invariant-loop-of
invariant-loop-of l = AreBodyLengths l.plan l.of-index l.lengths
