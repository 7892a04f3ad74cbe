use Rattle.std.proofs.Common.{refl}
use Rattle.lockstep_defs.proofs.Computed.{all_open}
use Rattle.lockstep_defs.proofs.examples.own_runs.Goals as goal

pub returns-clause-ended : goal.returns-clause-ended
unfolding all_open
returns-clause-ended c = refl

pub returns-clause-waiting : goal.returns-clause-waiting
unfolding all_open
returns-clause-waiting c = refl

pub returns-clause-spent : goal.returns-clause-spent
unfolding all_open
returns-clause-spent c = refl
