use Rattle.std.proofs.Common.{refl}
use Rattle.lockstep_defs.proofs.Computed.{all_open}
use Rattle.lockstep_defs.proofs.examples.blocks_and_loops.Goals as goal

pub returns-clause-back_to_back : goal.returns-clause-back_to_back
unfolding all_open
returns-clause-back_to_back c = record { verdict_is = refl; outputs_are = refl; held_are = refl }

pub returns-clause-parts : goal.returns-clause-parts
unfolding all_open
returns-clause-parts c = record { verdict_is = refl; outputs_are = refl; held_are = refl }
