use Rattle.std.proofs.Common.{refl}
use Rattle.core_actions.proofs.Permissions as permissions
use Rattle.core_actions.proofs.permitting.next_cycle.Goals as goal

pub returns-in-Waits-clause-cause : goal.returns-in-Waits-clause-cause
returns-in-Waits-clause-cause c =
    let first = rw (c.engine-engine.ensures.lanes, c.engine-engine.ensures.channels) at
    ((c.in-Waits.ensures.waits c.in-Waits.access).0 refl) in
    rw c.first_place.ensures (permissions.next_waits c.args.core.now c.engine-engine.ensures.fits c.engine-engine.ensures.sound
    c.args.owner c.requires
    c.in-Waits.access first)

pub returns-in-Beyond-clause-cause : goal.returns-in-Beyond-clause-cause
returns-in-Beyond-clause-cause c =
    let beyond = rw (c.engine-engine.ensures.lanes, c.engine-engine.ensures.channels, c.plan.ensures) at
    (c.in-Beyond.ensures.beyond.0 refl) in
    rw c.first_place-in-Beyond.ensures (permissions.next_beyond c.args.core.now c.engine-engine.ensures.fits
    c.engine-engine.ensures.sound c.args.owner
    c.requires _ refl beyond)

pub returns-in-At-clause-determined : goal.returns-in-At-clause-determined
returns-in-At-clause-determined c =
    let at = rw (c.engine-engine.ensures.lanes, c.engine-engine.ensures.channels, c.plan.ensures) at
    ((c.in-At.ensures.at c.in-At.cycle).0 refl) in
    permissions.next_at c.args.core.now c.engine-engine.ensures.fits c.engine-engine.ensures.sound c.args.owner c.requires c.in-At.cycle
    at.0 at.1

pub returns-in-At-clause-cause : goal.returns-in-At-clause-cause
returns-in-At-clause-cause c =
    permissions.next_found c.args.core.now c.engine-engine.ensures.fits c.engine-engine.ensures.sound c.args.owner c.requires c.in-At.cycle
    (returns-in-At-clause-determined c)
