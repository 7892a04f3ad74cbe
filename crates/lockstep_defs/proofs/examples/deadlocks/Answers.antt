use Rattle.std.proofs.Common.{refl}
use Rattle.lockstep_defs.proofs.Computed.{all_open}
use Rattle.lockstep_defs.proofs.examples.deadlocks.Goals as goal

pub returns-clause-deadlock_at_once : goal.returns-clause-deadlock_at_once
unfolding all_open
returns-clause-deadlock_at_once c = record { verdict_is = refl; outputs_are = refl; held_are = refl }

pub returns-clause-deadlocked_record : goal.returns-clause-deadlocked_record
unfolding all_open
returns-clause-deadlocked_record c = record { verdict_is = refl; outputs_are = refl; held_are = refl }

pub returns-clause-record_that_goes_on : goal.returns-clause-record_that_goes_on
unfolding all_open
returns-clause-record_that_goes_on c = record { verdict_is = refl; outputs_are = refl; held_are = refl }

pub returns-clause-run_ahead_past_full : goal.returns-clause-run_ahead_past_full
unfolding all_open
returns-clause-run_ahead_past_full c = record { verdict_is = refl; outputs_are = refl; held_are = refl }
