use Rattle.timing_bridge.proofs.Steps.{steps_are}
use Rattle.timing_bridge.proofs.laws.cores_show_history.Goals as goal

pub returns : goal.returns
returns c = steps_are
