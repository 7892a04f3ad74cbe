use Rattle.std.proofs.Common.{refl}
use Rattle.lockstep_defs.proofs.Computed.{all_open}
use Rattle.lockstep_defs.proofs.examples.fifos.Goals as goal

pub returns-clause-visibility_one_clock_later : goal.returns-clause-visibility_one_clock_later
unfolding all_open
returns-clause-visibility_one_clock_later c = record { verdict_is = refl; outputs_are = refl; held_are = refl }

pub returns-clause-visibility_events : goal.returns-clause-visibility_events
unfolding all_open
returns-clause-visibility_events c = refl

pub returns-clause-three_values_through_depth_two : goal.returns-clause-three_values_through_depth_two
unfolding all_open
returns-clause-three_values_through_depth_two c = record { verdict_is = refl; outputs_are = refl; held_are = refl }

pub returns-clause-events_through_depth_two : goal.returns-clause-events_through_depth_two
unfolding all_open
returns-clause-events_through_depth_two c = refl

pub returns-clause-three_values_through_depth_one : goal.returns-clause-three_values_through_depth_one
unfolding all_open
returns-clause-three_values_through_depth_one c = record { verdict_is = refl; outputs_are = refl; held_are = refl }

pub returns-clause-events_through_depth_one : goal.returns-clause-events_through_depth_one
unfolding all_open
returns-clause-events_through_depth_one c = refl
