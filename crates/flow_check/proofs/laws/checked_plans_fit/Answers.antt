use Rattle.flow_check.specs.{plan_of}
use Rattle.flow_check.proofs.{Fits.fits, Reading.plan_read}
use Rattle.flow_check.proofs.laws.checked_plans_fit.Goals as goal

pub returns : goal.returns
returns c = record {
  engine = λ scale statements rules none. (fits scale (plan_of scale statements) (plan_read scale statements rules) none).0;
  keeps = λ scale statements rules none. (fits scale (plan_of scale statements) (plan_read scale statements rules) none).1;
}
