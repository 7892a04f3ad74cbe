use Rattle.std.proofs.Common.{◌∙◌, arith}
use Rattle.core_actions.specs.{design, theory_of}
use Rattle.core_actions.proofs.Causing as causing
use Rattle.core_actions.proofs.Permissions as permissions
use Rattle.core_actions.proofs.permitting.is_busy.Goals as goal

pub returns : goal.returns
returns c =
    let v = c.args.core.now in
    let of = c.agrees.ensures in
    let run = c.is_ok-runs.ensures.value ∙ permissions.ok_is _ _ c.permits_run.ensures
    ∙ permissions.run_is v of.fits of.sound of.agreed c.args.owner c.requires in
    let assign = c.is_ok-assigns.ensures.value ∙ permissions.ok_is _ _ c.permits_assign.ensures
    ∙ permissions.assign_is v of.fits of.sound of.agreed c.args.owner in
    let answer = c.is_ok-answers.ensures.value ∙ permissions.ok_is _ _ c.permits_answer.ensures
    ∙ causing.answer_none (design v.plan) v.plan.cycles (theory_of v) c.args.owner in
    grind arith
