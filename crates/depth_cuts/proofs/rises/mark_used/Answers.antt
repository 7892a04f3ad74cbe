use Rattle.std.proofs.Common.{◌+◌, ◌∙◌, sym, subst, arith}
use Rattle.depth_cuts.proofs.Apart.{MarksMore, one_more_marked}
use Rattle.depth_cuts.proofs.rises.mark_used.Goals as goal

pub loop-place-preserved : goal.loop-place-preserved
loop-place-preserved c =
    let x = c.loop-place.invariant in
    let inside = c.requires c.loop-place.place (record { channel = 0; depth = 0 }) c.loop-place-test.true in
    let count = x.count in
    let more = subst (MarksMore c.args.needs.now c.loop-place.used (c.loop-place.place + 1)) (sym c.mark.ensures)
    (one_more_marked c.loop-place.used c.args.needs.now c.loop-place.place (record { channel = 0; depth = 0 })
    c.loop-place-test.true (omega arith) x.marked) in
    record {
      marked = more.marked;
      kept = λ f none. x.kept f (more.kept f none);
      count = more.count ∙ x.count;
    }
