use Rattle.depth_order.proofs.Silent.{no_answers}
use Rattle.depth_order.proofs.laws.quiet_plans_answer_nothing.Goals as goal

pub returns : goal.returns
returns c = no_answers
