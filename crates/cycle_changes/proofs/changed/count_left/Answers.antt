use Rattle.std.proofs.Common.{arith}
use Rattle.cycle_changes.proofs.Counting.{left_more}
use Rattle.cycle_changes.proofs.changed.count_left.Goals as goal

pub loop-owner-preserved : goal.loop-owner-preserved
loop-owner-preserved c =
    left_more c.args.graph.now.lanes c.args.from c.loop-owner.owner c.loop-owner.left c.left_of.result _ (omega arith) c.left_of.ensures
    c.loop-owner.invariant (omega arith)
