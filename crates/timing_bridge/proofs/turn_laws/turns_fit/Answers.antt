use Rattle.timing_bridge.proofs.Turning.{turn_is, lent_fits, ran_fits, timed_fits, earliest_fits, short_fits}
use Rattle.timing_bridge.proofs.turn_laws.turns_fit.Goals as goal

pub returns-clause-legal : goal.returns-clause-legal
returns-clause-legal g c = λ d h i y limit v w a f turn e. turn_is d h i y limit v w a f turn e

pub returns-clause-lent : goal.returns-clause-lent
returns-clause-lent g c = λ d limit v q m w t. lent_fits d limit v q m w t

pub returns-clause-ran : goal.returns-clause-ran
returns-clause-ran g c = λ d limit v q m n w t. ran_fits d limit v q m n w t

pub returns-clause-timed : goal.returns-clause-timed
returns-clause-timed g c = λ d limit v q n z s l e. timed_fits d limit v q n z s l e

pub returns-clause-earliest : goal.returns-clause-earliest
returns-clause-earliest g c = λ d limit v q z s none e. earliest_fits d limit v q z s none e

pub returns-clause-short : goal.returns-clause-short
returns-clause-short g c = λ d limit v q w t. short_fits d limit v q w t
