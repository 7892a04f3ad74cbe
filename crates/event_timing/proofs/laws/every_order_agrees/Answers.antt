use Rattle.event_timing.proofs.Agreement.{all_agree, opening_agrees}
use Rattle.event_timing.proofs.laws.every_order_agrees.Goals as goal

pub returns-clause-opening : goal.returns-clause-opening
returns-clause-opening g c = λ d h i y limit. opening_agrees d h i y limit

pub returns-clause-kept : goal.returns-clause-kept
returns-clause-kept g c = λ d h i y limit x a actions z s. all_agree d h i y limit x a actions z s
