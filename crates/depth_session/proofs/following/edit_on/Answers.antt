use Rattle.std.proofs.{Common.◌∙◌, Common.subst, lemmas.Result.IfOk-weaker, lemmas.Result.on_err_weaker}
use Rattle.depth_session.specs.{Guard, HasDriven, IsEdited, HasGoneOn}
use Rattle.depth_session.proofs.After.{differs_at_once, went_on, driven}
use Rattle.depth_session.proofs.following.edit_on.Goals as goal

pub returns-in-Differs-clause-gone : goal.returns-in-Differs-clause-gone
returns-in-Differs-clause-gone g c =
    let v = c.args.core.now in
    let w = c.edit.new.self in
    let e = c.args.edit.now in
    let from = c.agrees.ensures in
    let to = c.agrees-in-Differs.ensures in
    let edited = subst (λ (r : Guard). IsEdited v w e r c.new-steps.result c.edit.new.steps) c.in-Differs.is c.edit.ensures.edited in
    differs_at_once v e w c.in-Differs.query c.new-steps.result c.edit.new.steps
    (record { fits = from.fits; sound = from.sound; agreed = from.agreed })
    (record { fits = to.fits; sound = to.sound; agreed = to.agreed })
    c.requires.settled c.requires.fits c.edit.ensures.plan edited

pub returns-clause-gone : goal.returns-clause-gone
returns-clause-gone g c =
    let v = c.args.core.now in
    let e = c.args.edit.now in
    let middle = c.edit.new.self in
    let w = c.drive_on.new.core in
    let from = c.agrees.ensures in
    let edited = subst (λ (r : Guard). IsEdited v middle e r c.new-steps.result c.edit.new.steps) c.in-Same.is c.edit.ensures.edited in
    let on = went_on v e middle w c.new-steps.result c.edit.new.steps c.drive_on.new.steps
    (record { fits = from.fits; sound = from.sound; agreed = from.agreed }) c.drive_on.ensures.sound c.requires.settled c.requires.fits
    c.edit.ensures.plan edited c.drive_on.ensures.goes in
    IfOk-weaker c.drive_on.result (λ guard. HasDriven guard w) (λ guard. HasGoneOn guard v e w)
    (driven v e w on c.requires.settled (c.drive_on.ensures.goes.lent ∙ c.edit.ensures.lent)) c.drive_on.ensures.driven

pub returns-clause-no_memory : goal.returns-clause-no_memory
returns-clause-no_memory g c =
    let v = c.args.core.now in
    let e = c.args.edit.now in
    let middle = c.edit.new.self in
    let w = c.drive_on.new.core in
    let from = c.agrees.ensures in
    let edited = subst (λ (r : Guard). IsEdited v middle e r c.new-steps.result c.edit.new.steps) c.in-Same.is c.edit.ensures.edited in
    let on = went_on v e middle w c.new-steps.result c.edit.new.steps c.drive_on.new.steps
    (record { fits = from.fits; sound = from.sound; agreed = from.agreed }) c.drive_on.ensures.sound c.requires.settled c.requires.fits
    c.edit.ensures.plan edited c.drive_on.ensures.goes in
    on_err_weaker c.drive_on.result (λ run. (on, run)) c.drive_on.ensures.no_memory
