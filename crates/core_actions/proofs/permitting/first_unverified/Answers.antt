use Rattle.std.proofs.Common.{ap, ◌∙◌, ℕ, Option, is_none}
use Rattle.core_actions.specs.{design, in_lane}
use Rattle.core_actions.proofs.{Looking.IsFirst, permitting.first_unverified.Goals.After-look-step}
use Rattle.core_actions.proofs.Permissions as permissions
use Rattle.core_actions.proofs.permitting.first_unverified.Goals as goal

first_is : (c : After-look-step) → IsFirst (design c.args.core.now.plan) c.args.core.now.held c.args.owner (in_lane c.look-step.result)
first_is c =
    permissions.first_is c.args.core.now c.engine-engine.ensures.fits c.engine-engine.ensures.sound c.args.owner c.requires.owner
    c.requires.there
    (in_lane c.look-step.result) (rw (c.engine-engine.ensures.lanes, c.first_place.ensures) at c.look-step.ensures.step)

pub returns-then-step-verified-clause-first : goal.returns-then-step-verified-clause-first
returns-then-step-verified-clause-first c =
    (first_is (goal.at.returns-then-step-verified-clause-first c).After-look-step).verified
    (rw (c.verified.ensures.count, c.engine-engine.ensures.logs) at c.if-step-verified.true)

pub returns-clause-first : goal.returns-clause-first
returns-clause-first c =
    c.query_in.ensures
    ∙ (first_is (goal.at.returns-clause-first c).After-look-step).unverified
    (rw (c.verified.ensures.count, c.engine-engine.ensures.logs) at c.if-step-verified.false)

pub returns-then-step-verified-clause-verified : goal.returns-then-step-verified-clause-verified
returns-then-step-verified-clause-verified c =
    ap (λ (o : Option ℕ). is_none o) (returns-then-step-verified-clause-first c)
    ∙ permissions.verified_is c.args.core.now c.engine-engine.ensures.fits c.engine-engine.ensures.sound c.args.owner c.requires.owner
    c.requires.there

pub returns-clause-verified : goal.returns-clause-verified
returns-clause-verified c =
    ap (λ (o : Option ℕ). is_none o) (returns-clause-first c)
    ∙ permissions.verified_is c.args.core.now c.engine-engine.ensures.fits c.engine-engine.ensures.sound c.args.owner c.requires.owner
    c.requires.there
