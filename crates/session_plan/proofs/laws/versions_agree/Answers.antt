use Rattle.std.proofs.Common.{refl}
use Rattle.session_plan.specs.{plan_of, edits_of}
use Rattle.session_plan.proofs.laws.versions_agree.Goals as goal

pub returns : goal.returns
unfolding plan_of edits_of
returns c = record { plans = λ scale one other rest. refl; edits = λ one other rest. refl }
