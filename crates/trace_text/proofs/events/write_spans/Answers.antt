use Rattle.std.proofs.Common.{◌≡◌, ◌∙◌, ap, sym, refl, arith, ℕ, ◌+◌, ◌<◌, List, ◌++◌, map, length, take, drop, get_or, append_assoc}
use Rattle.std.specs.Prelude.{codes}
use Rattle.flow_design.proofs.Failing.{on_err}
use Rattle.sim_io.proofs.Pending.{items_rest, prefix_as, told_as, told_more, told_prefix_more}
use Rattle.timelines.specs.declared.span.Doing.TheVariants.{Moves}
use Rattle.trace_text.specs.{Span, span_event, further}
use Rattle.trace_text.proofs.Lines.{items_more}
use Rattle.trace_text.proofs.events.write_spans.Goals as goal

-- the spans before one, and that one's event
span_more : (f : Span → List ℕ) (spans : List Span) (k : ℕ) (d : Span) (first : List ℕ) → k < length spans
    → (first ++ further (map f (take k spans))) ++ (codes ",\n" ++ f (get_or spans k d)) ≡ first ++ further (map f (take (k + 1) spans))
span_more f spans k d first inside =
    items_more f spans k d first _ _ _ inside refl refl (sym (append_assoc _ (codes ",\n") (f (get_or spans k d))))

pub loop-span-preserved : goal.loop-span-preserved
loop-span-preserved g c = record {
  told = told_as _ _ _ _ _ (told_more _ _ _ _ _ _ _ c.loop-span.invariant.told c.in_ok-write_span.ensures.ok)
      (span_more (span_event c.args.design.now c.args.number) c.args.spans.now c.loop-span.span-index
      (record { first = 0; until = 0; doing = Moves }) c.args.pending.now c.loop-span-test.true);
  faults = omega (arith, c.loop-span.invariant.faults, c.in_ok-write_span.ensures.cause.later);
}

pub returns-in_err-write_span-clause-err : goal.returns-in_err-write_span-clause-err
returns-in_err-write_span-clause-err g c =
    let f = span_event c.args.design.now c.args.number in
    let spans = c.args.spans.now in
    let k = c.loop-span.span-index in
    let first = c.args.pending.now in
    on_err _ (prefix_as _ _ _ _ (told_prefix_more _ _ _ _ _ _ (further (map f (drop (k + 1) spans))) c.loop-span.invariant.told
    c.in_err-write_span.ensures.err)
    (ap (λ (t : List ℕ). t ++ further (map f (drop (k + 1) spans)))
    (span_more f spans k (record { first = 0; until = 0; doing = Moves }) first c.loop-span-test.true)
    ∙ items_rest (λ (e : List ℕ). codes ",\n" ++ e) f first spans (k + 1)))
