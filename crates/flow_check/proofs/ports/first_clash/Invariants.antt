use Rattle.flow_check.proofs.Slots.{AreTaken}
use Rattle.flow_check.proofs.ports.first_clash.Given as goal

abbrev pub invariant-loop-at : goal.invariant-loop-at
invariant-loop-at l = AreTaken l.kind l.ops l.at l.slots
