use Rattle.flow_check.proofs.Reading.{plan_read}
use Rattle.flow_check.proofs.laws.read_sessions_have_plans.Goals as goal

pub returns : goal.returns
returns c = plan_read
