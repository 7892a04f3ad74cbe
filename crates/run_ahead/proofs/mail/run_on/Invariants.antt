use Rattle.run_ahead.specs.{IsGoingOn}
use Rattle.run_ahead.proofs.mail.run_on.Given as goal

abbrev pub invariant-loop-left : goal.invariant-loop-left
invariant-loop-left l = IsGoingOn l.initial.mail l.initial.run l.initial.told l.marks l.run l.told l.mail

abbrev pub decreases-loop-left : goal.decreases-loop-left
decreases-loop-left l = l.left
