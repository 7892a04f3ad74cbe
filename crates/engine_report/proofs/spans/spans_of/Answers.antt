use Rattle.std.proofs.Common.{◌≡◌, ◌∙◌, ◌<◌, ◌+◌, ℕ, min, add-one, refl, subst, None, ap, arith, sym, Option, length}
use Rattle.std.proofs.lemmas.List.{get_or_read}
use Rattle.engine_report.specs.{Advance, lane_at, held_in, end_at, gap_of_end, cycle_before, HasPassedSteps, AreSpans}
use Rattle.engine_report.proofs.Stepping.{IsRead, below_got, cycle_got, none_told, step_told, open_told, end_told}
use Rattle.engine_report.proofs.spans.spans_of.Goals.{then-timed-len+in_ok-extend-2, else-timed-len+in_ok-stand-2}
use Rattle.engine_report.proofs.spans.spans_of.Goals as goal

pub loop-step-init : goal.loop-step-init
loop-step-init c = record {
  last = refl;
  below = omega arith;
  passed = λ p f e.
      let cycles = (lane_at c.args.engine.now.graph.lanes c.args.owner).cycles in
      subst (HasPassedSteps p c.args.owner c.args.clock cycles 0) (sym c.new-spans.ensures) (none_told p c.args.owner c.args.clock cycles);
}

pub loop-step-preserved : goal.loop-step-preserved
loop-step-preserved c =
    let cycles = (lane_at c.args.engine.now.graph.lanes c.args.owner).cycles in
    let k = c.loop-step.step in
    let less : k < length cycles = omega arith in
    let got = cycle_got cycles k c.cycle_of.result c.unwrap_or-cycle.result less c.cycle_of.ensures.cycle c.unwrap_or-cycle.ensures in
    record {
      last = got ∙ ap (cycle_before cycles) (sym (add-one k));
      below = below_got c.cycle_of.result c.unwrap_or-cycle.result c.unwrap_or-cycle.ensures c.cycle_of.ensures.below;
      passed = λ p f e.
          step_told p (held_in c.args.engine.now)
          c.args.engine.now.ends.items c.args.owner c.args.clock (record { finished = f; inside = c.requires.owner; its_clock = e })
          k c.loop-step.last c.unwrap_or-cycle.result c.min.result c.min-in-loop-step.result c.loop-step.spans c.stand.new.spans
          c.extend.new.spans less c.loop-step.invariant.last got c.min.ensures c.min-in-loop-step.ensures
          (c.loop-step.invariant.passed p f e)
          (c.in_ok-stand.ensures.spans p c.args.owner) c.in_ok-stand.ensures.reached (c.in_ok-extend.ensures.spans p c.args.owner)
          c.in_ok-extend.ensures.reached;
    }

pub returns : goal.returns
returns c = λ p f e.
    let cycles = (lane_at c.args.engine.now.graph.lanes c.args.owner).cycles in
    let h = held_in c.args.engine.now in
    let k = c.loop-step.step in
    let all : k ≡ length cycles = omega arith in
    let last = subst (λ (j : ℕ). c.loop-step.last ≡ cycle_before cycles j) all c.loop-step.invariant.last in
    let passed = subst (λ (j : ℕ). HasPassedSteps p c.args.owner c.args.clock cycles j c.loop-step.spans) all
    (c.loop-step.invariant.passed p f e) in
    let r : IsRead p h c.args.engine.now.ends.items c.args.owner c.args.clock = record {
      finished = f;
      inside = c.requires.owner;
      its_clock = e;
    } in
    elim c.if-timed-len.branch [
      | then-timed-len+in_ok-extend-2 w ↦
          let few : c.args.owner < length c.args.engine.now.ends.items = c.requires.ends in
          let same : w.index.result.now ≡ end_at c.args.engine.now.ends.items c.args.owner =
          get_or_read c.args.engine.now.ends.items c.args.owner w.index.result.now few w.index.ensures None in
          let gap = w.gap_of.ensures ∙ ap (λ (o : Option Advance). gap_of_end o) same in
          subst (AreSpans p c.args.owner) (sym w.spans-is) (end_told p h c.args.engine.now.ends.items c.args.owner c.args.clock r
          c.loop-step.last
          w.min-then-timed-len.result c.loop-step.spans w.extend-then-timed-len.new.spans (omega arith) last
          (w.min-then-timed-len.ensures ∙ ap (λ (n : ℕ). min (c.loop-step.last + n) c.args.clock) gap) passed
          (w.in_ok-extend-2.ensures.spans p c.args.owner) w.in_ok-extend-2.ensures.reached)
      | else-timed-len+in_ok-stand-2 w ↦
          subst (AreSpans p c.args.owner) (sym w.spans-is) (open_told p h c.args.engine.now.ends.items c.args.owner c.args.clock r
          c.frontier-timed.result c.loop-step.last c.loop-step.spans w.stand-else-timed-len.new.spans (omega arith) (omega arith) last
          passed (w.in_ok-stand-2.ensures.spans p c.args.owner) w.in_ok-stand-2.ensures.reached)
    ]
