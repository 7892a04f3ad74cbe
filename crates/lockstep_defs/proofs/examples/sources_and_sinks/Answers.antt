use Rattle.std.proofs.Common.{refl}
use Rattle.lockstep_defs.proofs.Computed.{all_open}
use Rattle.lockstep_defs.proofs.examples.sources_and_sinks.Goals as goal

pub returns-clause-plain_case : goal.returns-clause-plain_case
unfolding all_open
returns-clause-plain_case c = record { verdict_is = refl; outputs_are = refl; held_are = refl }

pub returns-clause-plain_events : goal.returns-clause-plain_events
unfolding all_open
returns-clause-plain_events c = refl

pub returns-clause-exhausted_source : goal.returns-clause-exhausted_source
unfolding all_open
returns-clause-exhausted_source c = record { verdict_is = refl; outputs_are = refl; held_are = refl }

pub returns-clause-commit_order : goal.returns-clause-commit_order
unfolding all_open
returns-clause-commit_order c = record { verdict_is = refl; outputs_are = refl; held_are = refl }

pub returns-clause-word_arithmetic : goal.returns-clause-word_arithmetic
unfolding all_open
returns-clause-word_arithmetic c = record { verdict_is = refl; outputs_are = refl; held_are = refl }

pub returns-clause-empty_design : goal.returns-clause-empty_design
unfolding all_open
returns-clause-empty_design c = record { verdict_is = refl; outputs_are = refl; held_are = refl }
