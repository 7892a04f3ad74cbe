use Rattle.std.proofs.Common.{refl}
use Rattle.sim_core.proofs.Counting.{taken_more, taken_all}
use Rattle.sim_core.proofs.taken.count_taken.Goals as goal

pub loop-mark-preserved : goal.loop-mark-preserved
loop-mark-preserved c =
    taken_more c.args.marks.now.accesses.items c.args.marks.now.others.items c.loop-mark.mark-index c.mark-item.result
    (rw c.as_slice-mark-items.ensures.value at c.loop-mark-test.true) (rw c.as_slice-mark-items.ensures.value at c.mark-item.is)
    c.loop-mark.invariant c.in_ok-count_mark.ensures

pub returns : goal.returns
returns c =
    taken_all c.args.marks.now.heads.items c.args.marks.now.accesses.items c.args.marks.now.others.items c.loop-mark.mark-index
    c.requires.parts (rw c.as_slice-mark-items.ensures.value at c.loop-mark-test.false) refl c.loop-mark.invariant
