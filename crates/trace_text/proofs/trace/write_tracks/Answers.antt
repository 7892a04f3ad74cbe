use Rattle.std.proofs.Common.{◌≡◌, ◌∙◌, ap, ap₂, subst, sym, refl, arith, ℕ, ◌+◌, ◌-◌, List, map, length, ◌++◌, ◌≤◌}
use Rattle.std.specs.{Prelude.All, List.flat_map, List.range_with_len}
use Rattle.trace_text.specs.{Plan, Span, AreSpans, span_event, span_events, IsDrawn, further}
use Rattle.flow_design.proofs.Failing.{on_err}
use Rattle.sim_io.proofs.Pending.{prefix_as, told_as, told_more, told_prefix, told_prefix_more}
use Rattle.timelines.proofs.Extending.{spans_order}
use Rattle.trace_text.proofs.{Lines.numbers_more, Lines.numbers_rest, Showing.spans_are, Showing.spans_drawn}
use Rattle.trace_text.proofs.trace.write_tracks.Goals as goal

pub write_spans-requires-clause-order : goal.write_spans-requires-clause-order
write_spans-requires-clause-order g c =
    subst (λ (ss : List Span). All (λ (s : Span). s.first ≤ s.until) ss) (sym c.as_slice.ensures)
    (spans_order c.args.core.now.plan c.loop-owner.owner _ c.in_ok-spans.spans c.in_ok-spans.ensures)

pub write_spans-requires-clause-drawn : goal.write_spans-requires-clause-drawn
write_spans-requires-clause-drawn g c =
    subst (λ (p : Plan). All (λ (s : Span). IsDrawn p.design s.doing) c.as_slice.result.now) (sym c.plan.ensures)
    (subst (λ (ss : List Span). All (λ (s : Span). IsDrawn c.args.core.now.plan.design s.doing) ss) (sym c.as_slice.ensures)
    (spans_drawn c.args.core.now.plan c.modules-owner-end.ensures.fits c.loop-owner.owner c.in_ok-spans.spans c.in_ok-spans.ensures))

-- the spans of one module more, as they are read
owner_more : (p q : Plan) (i : ℕ) (ss read : List Span) (first : List ℕ) → q ≡ p → read ≡ ss → AreSpans p i ss
    → (first ++ further (flat_map (span_events p) (range_with_len 0 i))) ++ further (map (span_event q.design i) read)
    ≡ first ++ further (flat_map (span_events p) (range_with_len 0 (i + 1)))
owner_more p q i ss read first same is are =
    numbers_more (span_events p) i first _ _ refl
    (ap₂ (λ (x : Plan) (xs : List Span).
    (first ++ further (flat_map (span_events p) (range_with_len 0 i))) ++ further (map (span_event x.design i) xs))
    same (is ∙ spans_are p i ss are))

pub loop-owner-preserved : goal.loop-owner-preserved
loop-owner-preserved g c = record {
  told = told_as _ _ _ _ _ (told_more _ _ _ _ _ _ _ c.loop-owner.invariant.told c.in_ok-write_spans.ensures.ok)
      (owner_more c.args.core.now.plan c.plan.result.now c.loop-owner.owner c.in_ok-spans.spans _ c.args.pending.now c.plan.ensures
      c.as_slice.ensures c.in_ok-spans.ensures);
  faults = omega (arith, c.loop-owner.invariant.faults, c.in_ok-write_spans.ensures.cause.later);
}

pub returns-in_err-spans-clause-err : goal.returns-in_err-spans-clause-err
returns-in_err-spans-clause-err g c =
    let p = c.args.core.now.plan in
    on_err _ (prefix_as _ _ _ _ (told_prefix _ _ _ _ _ c.loop-owner.invariant.told)
    (numbers_rest (span_events p) c.loop-owner.owner (length p.design.modules) c.args.pending.now
    (omega (arith, c.loop-owner-test.true, c.modules-owner-end.ensures.count))))

pub returns-in_err-write_spans-clause-err : goal.returns-in_err-write_spans-clause-err
returns-in_err-write_spans-clause-err g c =
    let p = c.args.core.now.plan in
    let i = c.loop-owner.owner in
    let all = length p.design.modules in
    let first = c.args.pending.now in
    let rest = further (flat_map (span_events p) (range_with_len (0 + (i + 1)) (all - (i + 1)))) in
    on_err _ (prefix_as _ _ _ _ (told_prefix_more _ _ _ _ _ _ rest c.loop-owner.invariant.told c.in_err-write_spans.ensures.err)
    (ap (λ (t : List ℕ). t ++ rest)
    (owner_more p c.plan.result.now i c.in_ok-spans.spans _ first c.plan.ensures c.as_slice.ensures c.in_ok-spans.ensures)
    ∙ numbers_rest (span_events p) (i + 1) all first (omega (arith, c.loop-owner-test.true, c.modules-owner-end.ensures.count))))
