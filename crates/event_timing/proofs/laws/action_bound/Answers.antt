use Rattle.event_timing.proofs.ActionBound.{few_actions, more_work, most_work}
use Rattle.event_timing.proofs.laws.action_bound.Goals as goal

pub returns-clause-opening : goal.returns-clause-opening
returns-clause-opening g c = λ d h i y limit most b actions x s. few_actions d h i y limit most b actions x s

pub returns-clause-rises : goal.returns-clause-rises
returns-clause-rises g c = λ d h limit x a k z s. more_work d h limit x a k z s

pub returns-clause-most : goal.returns-clause-most
returns-clause-most g c = λ d h limit x a most b. most_work d h limit x a most b
