use Rattle.timing_bridge.proofs.{Turning.turns_join, Lending.final_turn, Lending.final_stays}
use Rattle.timing_bridge.proofs.turn_laws.histories_grow.Goals as goal

pub returns-clause-joined : goal.returns-clause-joined
returns-clause-joined g c = λ d limit v turns more. turns_join d limit v turns more

pub returns-clause-final_turn : goal.returns-clause-final_turn
returns-clause-final_turn g c = λ d limit v w f turn t. final_turn d limit v w f turn t

pub returns-clause-final_stays : goal.returns-clause-final_stays
returns-clause-final_stays g c = λ d limit v w f turns t. final_stays d limit v w f turns t
