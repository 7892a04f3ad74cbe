use Rattle.depth_session.proofs.Logs.{counts_of_logs}
use Rattle.depth_session.proofs.laws.logs_are_kept.Goals as goal

pub returns : goal.returns
returns c = counts_of_logs
