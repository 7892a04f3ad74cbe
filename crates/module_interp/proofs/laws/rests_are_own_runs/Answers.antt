use Rattle.module_interp.proofs.Chains.{rests_are_own, rest_steps, marks_are_own}
use Rattle.module_interp.proofs.laws.rests_are_own_runs.Goals as goal

pub returns-clause-own : goal.returns-clause-own
returns-clause-own c = rests_are_own

pub returns-clause-steps : goal.returns-clause-steps
returns-clause-steps c = rest_steps

pub returns-clause-marks : goal.returns-clause-marks
returns-clause-marks c = marks_are_own
