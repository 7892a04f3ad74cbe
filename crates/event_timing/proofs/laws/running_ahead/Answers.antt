use Rattle.event_timing.proofs.Beside.{runs_stay, still_ahead}
use Rattle.event_timing.proofs.laws.running_ahead.Goals as goal

pub returns-clause-several : goal.returns-clause-several
returns-clause-several g c = λ d h i y limit x a m n z t actions o w s. runs_stay d h i y limit x a m n z t actions o w s

pub returns-clause-one : goal.returns-clause-one
returns-clause-one g c = λ d h i y limit x a m r actions o z s. still_ahead d h i y limit x a m r actions o z s
