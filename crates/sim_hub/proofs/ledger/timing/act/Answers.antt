use Rattle.std.proofs.Common.{arith, sym, ap, subst, ◌≡◌, ◌∙◌, ℕ, Some}
use Rattle.sim_hub.specs.{Plan, MayEarliest, IsInside, design, earliest_of, NoTiming, CoreView, theory_of}
use Rattle.sim_hub.proofs.Timing.{none_timed, timed_turn, earliest_turn}
use Rattle.sim_hub.proofs.ledger.timing.act.Goals as goal

pub returns-then-count-gt0-clause-did : goal.returns-then-count-gt0-clause-did
returns-then-count-gt0-clause-did g c = λ some at core memory.
    timed_turn c.args.core.now.plan at (theory_of c.args.core.now) _ c.time_all-count.result core memory some
    c.time_all-count.ensures.rounds

pub returns-then-answer_earliest-clause-did : goal.returns-then-answer_earliest-clause-did
returns-then-answer_earliest-clause-did g c = λ some at core memory.
    let first = c.args.core.now in
    let p = first.plan in
    let mid = c.time_all-count.new.self in
    let same = none_timed (design p) p.cycles (theory_of first) (theory_of mid) c.time_all-count.result
    (omega arith) c.time_all-count.ensures.rounds in
    let inside : IsInside (design p) (theory_of first) = c.agrees.ensures.agreed.marks.inside in
    let found = c.answer_earliest.ensures.done c.if-answer_earliest.true in
    earliest_turn p at (theory_of mid) _ (same ∙ core) memory (subst (IsInside (design p)) (sym same) inside)
    (subst (λ (q : Plan). earliest_of (design q) q.cycles (theory_of mid) ≡ Some (theory_of c.answer_earliest.new.self))
    c.time_all-count.ensures.goes.plan found)

pub returns-clause-no_timing : goal.returns-clause-no_timing
returns-clause-no_timing g c = λ zeroth.
    subst (λ (v : CoreView). NoTiming (design v.plan) v.plan.cycles (theory_of v))
    (sym (c.answer_earliest.ensures.unchanged c.if-answer_earliest.false)) c.time_all-count.ensures.none_left

pub returns-clause-same : goal.returns-clause-same
returns-clause-same g c = λ zeroth.
    let first = c.args.core.now in
    let p = first.plan in
    ap theory_of (c.answer_earliest.ensures.unchanged c.if-answer_earliest.false)
    ∙ none_timed (design p) p.cycles (theory_of first) (theory_of c.time_all-count.new.self) c.time_all-count.result (omega arith)
    c.time_all-count.ensures.rounds

pub returns-clause-no_earliest : goal.returns-clause-no_earliest
returns-clause-no_earliest g c = λ zeroth.
    subst (λ (v : CoreView). (m e : ℕ) → MayEarliest (design v.plan) v.plan.cycles (theory_of v) m e → ⊥)
    (sym (c.answer_earliest.ensures.unchanged c.if-answer_earliest.false))
    (c.answer_earliest.ensures.none c.if-answer_earliest.false)
