use Rattle.depth_cuts.specs.{AreNext}
use Rattle.depth_cuts.proofs.raised.deeper_ones.Given as goal

abbrev pub invariant-loop-channel : goal.invariant-loop-channel
invariant-loop-channel l = AreNext l.depths l.channel l.needs
