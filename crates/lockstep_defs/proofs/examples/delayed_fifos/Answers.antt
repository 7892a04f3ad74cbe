use Rattle.std.proofs.Common.{refl}
use Rattle.lockstep_defs.proofs.Computed.{all_open}
use Rattle.lockstep_defs.proofs.examples.delayed_fifos.Goals as goal

pub returns-clause-five_clocks_later : goal.returns-clause-five_clocks_later
unfolding all_open
returns-clause-five_clocks_later c = record { verdict_is = refl; outputs_are = refl; held_are = refl }

pub returns-clause-later_events : goal.returns-clause-later_events
unfolding all_open
returns-clause-later_events c = refl

pub returns-clause-late_through_depth_two : goal.returns-clause-late_through_depth_two
unfolding all_open
returns-clause-late_through_depth_two c = record { verdict_is = refl; outputs_are = refl; held_are = refl }

pub returns-clause-late_events_through_depth_two : goal.returns-clause-late_events_through_depth_two
unfolding all_open
returns-clause-late_events_through_depth_two c = refl

pub returns-clause-late_through_depth_three : goal.returns-clause-late_through_depth_three
unfolding all_open
returns-clause-late_through_depth_three c = record { verdict_is = refl; outputs_are = refl; held_are = refl }

pub returns-clause-late_events_through_depth_three : goal.returns-clause-late_events_through_depth_three
unfolding all_open
returns-clause-late_events_through_depth_three c = refl
