use Rattle.outcome_guard.proofs.InOrder.{no_edit, one_edit_more}
use Rattle.outcome_guard.proofs.laws.edits_in_order.Goals as goal

pub returns-clause-none : goal.returns-clause-none
returns-clause-none c = no_edit

pub returns-clause-one_more : goal.returns-clause-one_more
returns-clause-one_more c = one_edit_more
