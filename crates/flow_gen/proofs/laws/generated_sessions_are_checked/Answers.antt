use Rattle.flow_design.specs.declared.limits.Scale.TheVariants.{Standard}
use Rattle.flow_gen.proofs.{Checking.checked, Checking.faultless, Reading.kept}
use Rattle.flow_gen.proofs.laws.generated_sessions_are_checked.Goals as goal

pub returns : goal.returns
returns c = record {
  faultless = checked;
  engine = λ seed modules some most.
      c.checked_plans_fit.ensures.engine Standard _ (kept seed modules some most) (faultless seed modules some most);
}
