use Rattle.lockstep_defs.proofs.Reported.{report_numbers}
use Rattle.lockstep_defs.proofs.laws.reports_name_their_plans.Goals as goal

pub returns : goal.returns
returns c = report_numbers
