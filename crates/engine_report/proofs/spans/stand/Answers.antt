use Rattle.std.proofs.{Common.◌≡◌, Common.ap, Common.subst, lemmas.Option.get_or_from_slice_get}
use Rattle.std.specs.Prelude.{All}
use Rattle.engine_report.specs.{Step, lane_at, no_lane, in_lane, IsAccess, no_step, lane_step}
use Rattle.engine_report.proofs.spans.stand.Goals as goal

pub stand_from-requires-clause-inside : goal.stand_from-requires-clause-inside
stand_from-requires-clause-inside c =
    let step = in_lane c.look-step.result in
    let steps = (lane_at c.args.engine.now.graph.lanes c.args.place.module).steps in
    subst (All (IsAccess c.args.engine.now.fifos.channels))
    (ap (λ (s : Step). s.accesses) (get_or_from_slice_get steps c.args.place.step step step c.look-step.ensures.step))
    (c.requires.accesses c.args.place.module no_lane c.requires.step.owner c.args.place.step step c.requires.step.step)

pub returns-clause-spans : goal.returns-clause-spans
returns-clause-spans c =
    let steps = (lane_at c.args.engine.now.graph.lanes c.args.place.module).steps in
    let is : lane_step c.args.engine.now.graph.lanes c.args.place ≡ in_lane c.look-step.result =
    get_or_from_slice_get steps c.args.place.step (in_lane c.look-step.result) no_step c.look-step.ensures.step in
    rw (is, ← c.min-arrival.ensures) c.stand_from.ensures.spans
