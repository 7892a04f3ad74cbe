use Rattle.std.proofs.{Common.sym, Common.◌∙◌, Common.append-nil, lemmas.Option.get_or_from_slice_get}
use Rattle.engine_report.specs.{in_lane, lane_at, no_step}
use Rattle.engine_report.proofs.events.add_events.Goals as goal

pub returns : goal.returns
returns c =
    let key = c.args.key.now in
    let is = get_or_from_slice_get (lane_at c.args.graph.now.lanes key.module).steps key.step (in_lane c.look-step.result) no_step
    c.look-step.ensures.step in
    let all = c.into_iter-access-iterator.ensures.into_iter_gives ∙ c.iter-access-items.ensures in
    rw (is, ← c.requires.cycle) (sym (rw (c.in-None.ensures.steps.0, append-nil c.loop-access.events, all) at c.loop-access.invariant))
