use Rattle.flow_check.proofs.Counting.{IsSought}
use Rattle.flow_check.proofs.place.place_of.Given as goal

abbrev pub invariant-loop-at : goal.invariant-loop-at
invariant-loop-at l = IsSought l.statements l.item l.at l.before
