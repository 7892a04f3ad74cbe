use Rattle.std.proofs.Common.{◌≡◌, List, Bool, suc, ℕ, ◌+◌, ◌∙◌, ap, subst, arith, slice_get}
use Rattle.std.proofs.Math.Seq.{drop-cons}
use Rattle.run_ahead.proofs.Finding.{IsTaking, taking_none, taking_more, taking_all}
use Rattle.run_ahead.proofs.mail.take_values.Goals as goal

pub loop-access-init : goal.loop-access-init
loop-access-init c = taking_none c.args.mail.now c.args.told c.args.accesses.now

pub loop-access-preserved : goal.loop-access-preserved
loop-access-preserved c =
    let l = c.loop-access in
    let xs = c.args.accesses.now in
    let i = l.access-index in
    let more : suc i ≡ i + 1 = omega arith in
    subst (λ (n : ℕ). IsTaking c.args.mail.now c.args.told xs c.take_for.new.mail c.told_after-next.result n) more
    (taking_more c.args.mail.now c.args.told xs l.mail c.take_for.new.mail l.next c.told_after-next.result i _ _ l.invariant
    (drop-cons xs i _ c.loop-access-test.true)
    (c.outcome_at-outcome.ensures.outcome ∙ ap (λ (os : List Bool). slice_get os l.next) c.as_slice.ensures)
    c.take_for.ensures.outcomes c.take_for.ensures.left c.told_after-next.ensures)

pub returns : goal.returns
returns c = record {
  left = taking_all c.args.mail.now c.args.told c.args.accesses.now c.loop-access.mail c.loop-access.next c.loop-access.access-index
      c.loop-access.invariant c.loop-access-test.false;
}
