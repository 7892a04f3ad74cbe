use Rattle.std.proofs.Common.{◌∙◌}
use Rattle.core_actions.specs.{in_lane}
use Rattle.core_actions.proofs.Permissions as permissions
use Rattle.core_actions.proofs.permitting.first_undecided.Goals as goal

pub returns : goal.returns
returns c =
    let there = rw (c.engine-engine.ensures.lanes, c.first_place.ensures) at c.look-step.ensures.step in
    let found = rw (c.engine-engine.ensures.lanes, c.engine-engine.ensures.channels) at c.undecided_in.ensures in
    found ∙ (permissions.first_is c.args.core.now c.engine-engine.ensures.fits c.engine-engine.ensures.sound c.args.owner c.requires.owner
    c.requires.there (in_lane c.look-step.result) there).undecided
