use Rattle.std.proofs.Common.{refl}
use Rattle.lockstep_defs.proofs.Computed.{all_open}
use Rattle.lockstep_defs.proofs.examples.delayed_queries_and_deadlocks.Goals as goal

pub returns-clause-there_in_time : goal.returns-clause-there_in_time
unfolding all_open
returns-clause-there_in_time c = record { verdict_is = refl; outputs_are = refl; held_are = refl }

pub returns-clause-not_there_yet : goal.returns-clause-not_there_yet
unfolding all_open
returns-clause-not_there_yet c = record { verdict_is = refl; outputs_are = refl; held_are = refl }

pub returns-clause-slow_deadlock : goal.returns-clause-slow_deadlock
unfolding all_open
returns-clause-slow_deadlock c = record { verdict_is = refl; outputs_are = refl; held_are = refl }

pub returns-clause-held_by_the_second : goal.returns-clause-held_by_the_second
unfolding all_open
returns-clause-held_by_the_second c = record { verdict_is = refl; outputs_are = refl; held_are = refl }
