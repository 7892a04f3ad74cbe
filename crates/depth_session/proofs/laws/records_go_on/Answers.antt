use Rattle.depth_session.proofs.Going.{counts_go_on, counts_repeat, counts_differ}
use Rattle.depth_session.proofs.laws.records_go_on.Goals as goal

pub returns : goal.returns
returns c = record { goes_on = counts_go_on; repeats = counts_repeat; differs = counts_differ }
