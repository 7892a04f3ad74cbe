use Rattle.timing_bridge.proofs.{InOrder.history_in_order, InOrder.only_in_order, InOrder.reported_history, Places.sorted_steps}
use Rattle.timing_bridge.proofs.laws.steps_in_order.Goals as goal

pub returns-clause-history : goal.returns-clause-history
returns-clause-history c = λ p h limit x g f. history_in_order p h limit x g f

pub returns-clause-only : goal.returns-clause-only
returns-clause-only c = λ p h limit x g f steps o. only_in_order p h limit x g f steps o

pub returns-clause-sorted : goal.returns-clause-sorted
returns-clause-sorted c = λ p limit x g places s. sorted_steps p limit x g places s

pub returns-clause-reported : goal.returns-clause-reported
returns-clause-reported c = reported_history
