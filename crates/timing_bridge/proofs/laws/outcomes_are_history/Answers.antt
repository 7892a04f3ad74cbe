use Rattle.timing_bridge.proofs.Outcomes.{determined_step, answered_outcomes, earliest_outcomes, verified_outcomes}
use Rattle.timing_bridge.proofs.laws.outcomes_are_history.Goals as goal

pub returns-clause-determined : goal.returns-clause-determined
returns-clause-determined c = λ p h limit x g i k e. determined_step p h limit x g i k e

pub returns-clause-answered : goal.returns-clause-answered
returns-clause-answered c = λ p h limit x g i k r. answered_outcomes p h limit x g i k r

pub returns-clause-earliest : goal.returns-clause-earliest
returns-clause-earliest c = λ p h limit x g i k r. earliest_outcomes p h limit x g i k r

pub returns-clause-verified : goal.returns-clause-verified
returns-clause-verified c = λ p h limit x g i l v q. verified_outcomes p h limit x g i l v q
