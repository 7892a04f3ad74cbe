use Rattle.std.proofs.{Common.refl, Common.ap, Common.subst, Common.[], lemmas.Option.get_or_from_slice_get}
use Rattle.std.specs.Prelude.{All}
use Rattle.cycle_changes.specs.{Step, lane_at, no_lane, in_lane, IsAccess, held_parts}
use Rattle.cycle_changes.proofs.HeldSteps.{step_is, looked_at, not_looked}
use Rattle.cycle_changes.proofs.looking.due_cycle.Goals as goal

pub latest-requires-clause-accesses : goal.latest-requires-clause-accesses
latest-requires-clause-accesses c =
    let step = in_lane c.look-step.result in
    let steps = (lane_at c.args.graph.now.lanes c.args.at.module).steps in
    subst (All (IsAccess c.args.fifos.now.channels))
    (ap (λ (s : Step). s.accesses) (get_or_from_slice_get steps c.args.at.step step step c.look-step.ensures.step))
    (c.requires.accesses c.args.at.module no_lane c.requires.there.owner c.args.at.step step c.requires.there.step)

pub returns-in-Ok : goal.returns-in-Ok
returns-in-Ok c =
    let h = held_parts c.args.graph.now.lanes c.args.fifos.now.channels [] [] in
    let step = in_lane c.look-step.result in
    looked_at h c.args.at.module c.args.at.step step step.accesses
    (step_is h c.args.at.module c.args.at.step step c.look-step.ensures.step) refl c.cycle_before.result c.in-Ok.cycle
    c.cycle_before.ensures.cycle c.in-Ok.ensures.none_waits c.in-Ok.ensures.latest

pub returns-in-Err : goal.returns-in-Err
returns-in-Err c =
    let h = held_parts c.args.graph.now.lanes c.args.fifos.now.channels [] [] in
    let step = in_lane c.look-step.result in
    not_looked h c.args.at.module c.args.at.step step step.accesses
    (step_is h c.args.at.module c.args.at.step step c.look-step.ensures.step) refl c.in-Err._access
    c.in-Err.ensures.waits
