use Rattle.lockstep_defs.proofs.Commits.{last_write_wins}
use Rattle.lockstep_defs.proofs.laws.last_write_wins.Goals as goal

pub returns : goal.returns
returns c = last_write_wins
