use Rattle.std.proofs.Common.{arith}
use Rattle.depth_sweep.proofs.Counting.{edit_fits, one_edit_more, all_edited}
use Rattle.depth_sweep.proofs.fifos.set_depths.Goals as goal

pub edit-requires : goal.edit-requires
edit-requires c =
    edit_fits c.args.plan.now c.args.channels.now c.requires.channels c.loop-at.plan c.loop-at.at c.args.depths.now c.fits.ensures
    c.loop-at.invariant c.loop-at-test.true c.requires.count c.requires.limits

pub loop-at-preserved : goal.loop-at-preserved
loop-at-preserved c =
    let p = c.args.plan.now in
    let now = c.loop-at.plan in
    one_edit_more p c.args.channels.now c.requires.channels c.edits_in_order.ensures.one_more now c.edit.new.self c.loop-at.at
    c.args.depths.now c.fits.ensures c.loop-at.invariant c.loop-at-test.true c.requires.count c.edit.ensures

pub returns : goal.returns
returns c =
    all_edited c.args.plan.now c.args.channels.now c.requires.channels c.loop-at.plan c.loop-at.at c.args.depths.now
    c.loop-at.invariant (omega arith) c.requires.count
