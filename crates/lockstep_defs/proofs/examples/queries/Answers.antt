use Rattle.std.proofs.Common.{refl}
use Rattle.lockstep_defs.proofs.Computed.{all_open}
use Rattle.lockstep_defs.proofs.examples.queries.Goals as goal

pub returns-clause-tie_in_the_clock : goal.returns-clause-tie_in_the_clock
unfolding all_open
returns-clause-tie_in_the_clock c = record { verdict_is = refl; outputs_are = refl; held_are = refl }

pub returns-clause-one_clock_after_the_push : goal.returns-clause-one_clock_after_the_push
unfolding all_open
returns-clause-one_clock_after_the_push c = record { verdict_is = refl; outputs_are = refl; held_are = refl }

pub returns-clause-two_least_queries : goal.returns-clause-two_least_queries
unfolding all_open
returns-clause-two_least_queries c = record { verdict_is = refl; outputs_are = refl; held_are = refl }

pub returns-clause-later_stall_delays_earlier_query : goal.returns-clause-later_stall_delays_earlier_query
unfolding all_open
returns-clause-later_stall_delays_earlier_query c = record { verdict_is = refl; outputs_are = refl; held_are = refl }

pub returns-clause-both_ends_in_one_module : goal.returns-clause-both_ends_in_one_module
unfolding all_open
returns-clause-both_ends_in_one_module c = record { verdict_is = refl; outputs_are = refl; held_are = refl }

pub returns-clause-outcome_at_depth_one : goal.returns-clause-outcome_at_depth_one
unfolding all_open
returns-clause-outcome_at_depth_one c = record { verdict_is = refl; outputs_are = refl; held_are = refl }

pub returns-clause-outcome_at_depth_two : goal.returns-clause-outcome_at_depth_two
unfolding all_open
returns-clause-outcome_at_depth_two c = record { verdict_is = refl; outputs_are = refl; held_are = refl }
