use Rattle.flow_check.proofs.Telling.{tells_first}
use Rattle.flow_check.proofs.laws.refusals_tell_the_first.Goals as goal

pub returns : goal.returns
returns c = tells_first
