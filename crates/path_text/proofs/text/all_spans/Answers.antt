use Rattle.std.proofs.Common.{◌∙◌, ap, sym, subst, ℕ, ◌+◌, List, [], ◌∷◌, length, length-append}
use Rattle.path_text.specs.{Span, AreSpansBelow}
use Rattle.path_text.proofs.Whole.{spans_more}
use Rattle.path_text.proofs.text.all_spans.Goals as goal

pub loop-owner-preserved : goal.loop-owner-preserved
loop-owner-preserved c =
    let p = c.args.core.now.plan in
    let added = ap (λ (ss : List (List Span)). length ss) c.in_ok-push.ensures.ok
    ∙ length-append c.loop-owner.spans (c.in_ok-spans-2.field-0 ∷ []) in
    record {
      count = added ∙ ap (λ (n : ℕ). n + 1) c.loop-owner.invariant.count;
      each = spans_more p c.args.clock c.loop-owner.owner c.loop-owner.spans c.push.new.self c.in_ok-spans-2.field-0
          c.loop-owner.invariant.count c.loop-owner.invariant.each c.in_ok-push.ensures.ok
          (subst (λ (k : ℕ). AreSpansBelow p c.loop-owner.owner k c.in_ok-spans-2.field-0) (sym c.requires.clock) c.in_ok-spans-2.ensures);
    }
