use Rattle.run_ahead.proofs.Finding.{IsTaking}
use Rattle.run_ahead.proofs.mail.take_values.Given as goal

abbrev pub invariant-loop-access : goal.invariant-loop-access
invariant-loop-access l = IsTaking l.initial.mail l.told l.accesses l.mail l.next l.access-index
