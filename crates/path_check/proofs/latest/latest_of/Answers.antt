use Rattle.std.proofs.{Common.ap, Common.subst, lemmas.Option.get_or_from_slice_get}
use Rattle.std.specs.Prelude.{All}
use Rattle.path_check.specs.{Step, lane_at, no_lane, in_lane, IsAccess}
use Rattle.path_check.proofs.latest.latest_of.Goals as goal

pub first_waiting-requires : goal.first_waiting-requires
first_waiting-requires c =
    let here = c.has_step.ensures c.if-not-has_step.false in
    let step = in_lane c.look-step.result in
    let steps = (lane_at c.args.engine.now.graph.lanes c.args.place.module).steps in
    subst (All (IsAccess c.args.engine.now.fifos.channels))
    (ap (λ (s : Step). s.accesses) (get_or_from_slice_get steps c.args.place.step step step c.look-step.ensures.step))
    (c.requires.accesses c.args.place.module no_lane here.owner c.args.place.step step here.step)
