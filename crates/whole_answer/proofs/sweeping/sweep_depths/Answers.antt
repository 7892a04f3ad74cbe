use Rattle.std.proofs.Common.{◌≡◌, ◌∙◌, ap, subst, Err, IfOk}
use Rattle.whole_answer.specs.{declared.answer.Answer.Answer, told_points}
use Rattle.whole_answer.proofs.Swept.{swept_few, swept_wide}
use Rattle.whole_answer.proofs.sweeping.sweep_depths.Goals as goal

pub returns-in-Ok : goal.returns-in-Ok
returns-in-Ok g c =
    subst (λ (a : Answer). IfOk c.tell_points.result (λ whole. whole ≡ a))
    (ap told_points (c.as_slice.ensures ∙ c.in-Ok.ensures.points)
    ∙ swept_few c.args.lo c.args.hi c.args.plan (λ wide. let no = c.in-Ok.ensures.too_wide.1 wide in cc)) c.tell_points.ensures

pub returns-in-Err-TooWide : goal.returns-in-Err-TooWide
returns-in-Err-TooWide g c =
    subst (λ (a : Answer). IfOk c.refuse.result (λ whole. whole ≡ a))
    (swept_wide c.args.lo c.args.hi c.args.plan (c.in-Err-TooWide.ensures.too_wide.0 (ap Err c.in-Err-TooWide.field-0-is)))
    c.refuse.ensures
