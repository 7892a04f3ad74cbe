use Rattle.std.proofs.{Common.get_or, Common.arith, lemmas.Grind.common_steps, lemmas.Option.get_or_from_slice_get}
use Rattle.engine_report.specs.{in_lane, lane_at, no_step, TimedStep}
use Rattle.engine_report.proofs.events.count_accesses.Goals as goal

abbrev no_key : TimedStep
no_key = record { cycle = 0; «module» = 0; step = 0 }

pub loop-key-preserved : goal.loop-key-preserved
loop-key-preserved c =
    let key = get_or c.args.keys.now c.loop-key.key-index no_key in
    let same = get_or_from_slice_get (lane_at c.args.graph.now.lanes key.module).steps key.step (in_lane c.look-step.result) no_step
    c.look-step.ensures.step in
    grind (arith, common_steps)
