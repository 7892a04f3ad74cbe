use Rattle.sim_core.proofs.SetFew.{set_few}
use Rattle.sim_core.proofs.records.edits_set_few.Goals as goal

pub returns : goal.returns
returns c = λ v e w on set is. set_few v e w on set is
