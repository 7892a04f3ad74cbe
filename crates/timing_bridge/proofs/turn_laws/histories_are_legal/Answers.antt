use Rattle.timing_bridge.proofs.Plans.{history_is, history_agrees, history_verified, next_turn}
use Rattle.timing_bridge.proofs.turn_laws.histories_are_legal.Goals as goal

pub returns-clause-legal : goal.returns-clause-legal
returns-clause-legal c = λ p fits turns v e. history_is p fits turns v e

pub returns-clause-agrees : goal.returns-clause-agrees
returns-clause-agrees c = λ p fits turns v t. history_agrees p fits turns v t

pub returns-clause-verified : goal.returns-clause-verified
returns-clause-verified c = λ p fits turns v t. history_verified p fits turns v t

pub returns-clause-turn : goal.returns-clause-turn
returns-clause-turn c = λ p fits turns v w t turn e. next_turn p fits turns v w t turn e
