use Rattle.std.proofs.Common.{refl}
use Rattle.lockstep_defs.proofs.Computed.{all_open}
use Rattle.lockstep_defs.proofs.examples.limits.Goals as goal

pub returns-clause-exact_end : goal.returns-clause-exact_end
unfolding all_open
returns-clause-exact_end c = record { verdict_is = refl; outputs_are = refl; held_are = refl }

pub returns-clause-cycle_limit_before_the_end : goal.returns-clause-cycle_limit_before_the_end
unfolding all_open
returns-clause-cycle_limit_before_the_end c = record { verdict_is = refl; outputs_are = refl; held_are = refl }

pub returns-clause-exact_operation_limit : goal.returns-clause-exact_operation_limit
unfolding all_open
returns-clause-exact_operation_limit c = record { verdict_is = refl; outputs_are = refl; held_are = refl }

pub returns-clause-operation_limit_before_the_end : goal.returns-clause-operation_limit_before_the_end
unfolding all_open
returns-clause-operation_limit_before_the_end c = record { verdict_is = refl; outputs_are = refl; held_are = refl }

pub returns-clause-polling_loop : goal.returns-clause-polling_loop
unfolding all_open
returns-clause-polling_loop c = record { verdict_is = refl; outputs_are = refl; held_are = refl }

pub returns-clause-polling_answers : goal.returns-clause-polling_answers
unfolding all_open
returns-clause-polling_answers c = refl
