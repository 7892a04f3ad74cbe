use Rattle.std.proofs.Common.{ap}
use Rattle.std.specs.Option.{option_map}
use Rattle.flow_check.specs.{plan_of, fault_on_line}
use Rattle.flow_check.proofs.Fits.{strict}
use Rattle.flow_check.proofs.laws.fitting_plans_are_checked.Goals as goal

pub returns : goal.returns
returns c = record {
  plans = strict;
  sessions = λ scale statements lines fits keeps.
      ap (option_map (fault_on_line statements lines)) (strict scale (plan_of scale statements) fits keeps);
}
