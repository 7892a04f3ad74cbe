use Rattle.std.proofs.{Common.◌∙◌, Common.sym, Common.arith, Math.Seq.drop-cons}
use Rattle.run_ahead.proofs.Finding.{finding_more}
use Rattle.run_ahead.proofs.replies.find_replies.Goals.{then-not-is_blocking, else-not-is_blocking}
use Rattle.run_ahead.proofs.replies.find_replies.Goals as goal

pub loop-access-preserved : goal.loop-access-preserved
loop-access-preserved g c =
    let xs = c.args.accesses.now in
    let i = c.loop-access.access-index in
    finding_more c.args.outcomes.now (g.V.Values.value c.args.values.now) c.args.told xs c.loop-access.next c.if-not-is_blocking.next i _ _
    c.loop-access.invariant (drop-cons xs i _ c.loop-access-test.true) (sym c.reply_at.ensures.reply ∙ c.in-Some.is)
    (elim c.if-not-is_blocking.branch [
      | then-not-is_blocking w ↦ rw (← c.is_blocking.ensures, w.if-not-is_blocking.true) (w.next-is ∙ omega arith)
      | else-not-is_blocking w ↦ rw (← c.is_blocking.ensures, w.if-not-is_blocking.false) w.next-is
    ])
