use Rattle.lockstep_defs.proofs.Live.{live_iff, are_ages}
use Rattle.lockstep_defs.proofs.laws.live_iterations.Goals as goal

pub returns-clause-live : goal.returns-clause-live
returns-clause-live c = live_iff

pub returns-clause-ages : goal.returns-clause-ages
returns-clause-ages c = are_ages
