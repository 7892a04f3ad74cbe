use Rattle.std.proofs.Common.{◌∙◌, ap, subst, sym, List, ℕ, ◌++◌, ◌<◌, ◌≤◌, ◌^◌, length, Bool}
use Rattle.std.proofs.lemmas.Result.{on_ok_weaker}
use Rattle.std.specs.Prelude.{All}
use Rattle.flow_word.specs.declared.access.Side.TheVariants.{Pop, Push}
use Rattle.stall_text.specs.{Channel, Plan, last_clock, Doing, Span, spans_clocks, is_moving, is_still, line, text_of_lines, module_name}
use Rattle.stall_text.specs.{module_tokens, at_each_side, HasChannelBelow, causes_by}
use Rattle.timelines.proofs.{Existing.counted_spans, Extending.spans_order}
use Rattle.stall_text.proofs.{Totals.spans_inside, Totals.spans_few, Totals.still_is, Whole.module_text}
use Rattle.stall_text.proofs.text.print_module.Goals as goal

pub still_clocks-requires-clause-order : goal.still_clocks-requires-clause-order
still_clocks-requires-clause-order c =
    subst (All (λ (s : Span). s.first ≤ s.until)) (sym c.as_slice.ensures)
    (spans_order c.args.core.now.plan c.args.owner _ c.in_ok-spans.spans c.in_ok-spans.ensures)

pub still_clocks-requires-clause-inside : goal.still_clocks-requires-clause-inside
still_clocks-requires-clause-inside c =
    subst (λ (cs : List Channel). All (λ (s : Span). HasChannelBelow (length cs) s.doing) c.as_slice.result.now)
    (sym (c.as_slice-channels.ensures ∙ ap (λ (p : Plan). p.design.channels) c.plan.ensures))
    (subst (All (λ (s : Span). HasChannelBelow (length c.args.core.now.plan.design.channels) s.doing)) (sym c.as_slice.ensures)
    (spans_inside c.args.core.now.plan c.agrees.ensures.fits c.args.owner c.in_ok-spans.spans c.in_ok-spans.ensures))

pub still_clocks-requires-clause-few : goal.still_clocks-requires-clause-few
still_clocks-requires-clause-few c =
    subst (λ (ss : List Span). (test : Doing → Bool) → spans_clocks test ss < 2 ^ 64) (sym c.as_slice.ensures)
    (spans_few c.args.core.now.plan c.agrees.ensures.fits c.args.owner c.in_ok-spans.spans c.in_ok-spans.ensures)

pub still_clocks-requires-2-clause-order : goal.still_clocks-requires-2-clause-order
still_clocks-requires-2-clause-order c =
    subst (All (λ (s : Span). s.first ≤ s.until)) (sym c.as_slice-2.ensures)
    (spans_order c.args.core.now.plan c.args.owner _ c.in_ok-spans.spans c.in_ok-spans.ensures)

pub still_clocks-requires-2-clause-inside : goal.still_clocks-requires-2-clause-inside
still_clocks-requires-2-clause-inside c =
    subst (λ (cs : List Channel). All (λ (s : Span). HasChannelBelow (length cs) s.doing) c.as_slice-2.result.now)
    (sym (c.as_slice-channels.ensures ∙ ap (λ (p : Plan). p.design.channels) c.plan.ensures))
    (subst (All (λ (s : Span). HasChannelBelow (length c.args.core.now.plan.design.channels) s.doing)) (sym c.as_slice-2.ensures)
    (spans_inside c.args.core.now.plan c.agrees.ensures.fits c.args.owner c.in_ok-spans.spans c.in_ok-spans.ensures))

pub still_clocks-requires-2-clause-few : goal.still_clocks-requires-2-clause-few
still_clocks-requires-2-clause-few c =
    subst (λ (ss : List Span). (test : Doing → Bool) → spans_clocks test ss < 2 ^ 64) (sym c.as_slice-2.ensures)
    (spans_few c.args.core.now.plan c.agrees.ensures.fits c.args.owner c.in_ok-spans.spans c.in_ok-spans.ensures)

pub clocks_of-requires-clause-order : goal.clocks_of-requires-clause-order
clocks_of-requires-clause-order c =
    subst (All (λ (s : Span). s.first ≤ s.until)) (sym c.as_slice-3.ensures)
    (spans_order c.args.core.now.plan c.args.owner _ c.in_ok-spans.spans c.in_ok-spans.ensures)

pub clocks_of-requires-clause-few : goal.clocks_of-requires-clause-few
clocks_of-requires-clause-few c =
    subst (λ (ss : List Span). (test : Doing → Bool) → spans_clocks test ss < 2 ^ 64) (sym c.as_slice-3.ensures)
    (spans_few c.args.core.now.plan c.agrees.ensures.fits c.args.owner c.in_ok-spans.spans c.in_ok-spans.ensures)

pub returns : goal.returns
returns c =
    let p = c.args.core.now.plan in
    let i = c.args.owner in
    let spans = c.in_ok-spans.spans in
    let are = c.in_ok-spans.ensures in
    let count = ap length (c.as_slice-channels.ensures ∙ ap (λ (q : Plan). q.design.channels) c.plan.ensures) in
    let empty = still_is p i Pop spans c.as_slice.result.now are c.as_slice.ensures (length c.as_slice-channels.result.now) count
    c.in_ok-empty.empty c.as_slice-4.result.now c.as_slice-4.ensures c.in_ok-empty.ensures.each in
    let full = still_is p i Push spans c.as_slice-2.result.now are c.as_slice-2.ensures (length c.as_slice-channels.result.now) count
    c.in_ok-full.full c.as_slice-5.result.now c.as_slice-5.ensures c.in_ok-full.ensures.each in
    let moved = c.clocks_of.ensures.moved
    ∙ (ap (spans_clocks is_moving) c.as_slice-3.ensures ∙ counted_spans is_moving p i (last_clock p) spans are) in
    let still = c.clocks_of.ensures.still
    ∙ (ap (spans_clocks is_still) c.as_slice-3.ensures ∙ counted_spans is_still p i (last_clock p) spans are) in
    let name = c.module_name.ensures in
    on_ok_weaker c.print_causes.result (λ e.
    module_text p i c.clocks_of.result.moved c.clocks_of.result.still c.as_slice-4.result.now c.as_slice-5.result.now c.args.text.now
    c.print_clocks.new.text c.print_causes.new.text empty full moved still
    (c.in_ok-print_clocks.ensures
    ∙ (ap (λ (t : List ℕ). c.args.text.now ++ line (module_tokens t c.clocks_of.result.moved c.clocks_of.result.still)) name
    ∙ ap (λ (q : Plan). c.args.text.now ++ line (module_tokens (module_name q.design i) c.clocks_of.result.moved c.clocks_of.result.still))
    c.plan.ensures))
    (e ∙ ap (λ (q : Plan). c.print_clocks.new.text
    ++ text_of_lines (at_each_side (length q.design.channels) (causes_by q.design i c.as_slice-4.result.now c.as_slice-5.result.now)))
    c.plan.ensures)) c.print_causes.ensures
