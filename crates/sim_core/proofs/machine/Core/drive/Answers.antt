use Rattle.std.proofs.Common.{refl, sym, subst, ◌∙◌, ◌<◌, inl, arith}
use Rattle.sim_core.specs.{IsGoingRound, visits_left, CoreView, theory_of, IsFinal, design, IsDifferent}
use Rattle.sim_core.proofs.Rounds as rounds
use Rattle.sim_core.proofs.machine.Core.drive.Goals as goal

pub loop-next-init : goal.loop-next-init
loop-next-init g c =
    rounds.begun c.modules.ensures.agreed c.modules.ensures.fits c.requires (c.new-cursor.ensures.count ∙ c.modules.ensures.count)

pub visit-requires : goal.visit-requires
visit-requires g c = record {
  owner = rw c.next_visit.ensures.same c.in-Some.ensures.inside;
  here = rw c.next_visit.ensures.same (c.loop-next.invariant.own c.in-Some.next.owner c.in-Some.ensures.inside);
}

pub returns-in_err-again-in-Some-clause-goes : goal.returns-in_err-again-in-Some-clause-goes
returns-in_err-again-in-Some-clause-goes g c =
    rounds.goes_join c.args.self.now c.loop-next.self c.visit.new.self c.args.steps.now c.loop-next.steps c.visit.new.steps
    c.loop-next.invariant.goes (rw c.next_visit.ensures.same at c.in_err-again-in-Some.ensures.no_memory).goes

pub loop-next-smaller-in-Acted : goal.loop-next-smaller-in-Acted
loop-next-smaller-in-Acted g c =
    let visited = rw (c.in-Acted.is, c.next_visit.ensures.same) at c.in_ok-again-in-Some.ensures.visited in
    let less = c.acted.ensures.less _ _ (rounds.went_on c.loop-next.invariant visited) in
    let no_more = c.next_visit.ensures.no_more (rounds.to_do c.loop-next.self) in
    subst (λ (w : CoreView). visits_left (rounds.to_do w) c.acted.new.self 0
    < visits_left (rounds.to_do c.loop-next.self) c.loop-next.cursor c.loop-next.from) (sym c.hint_around.ensures)
    (rounds.visits_fall _ _ c.loop-next.cursor.count c.acted.new.self.count c.loop-next.from 0
    (c.acted.ensures.count ∙ c.next_visit.ensures.count) (omega arith))

pub loop-next-smaller-in-Idle : goal.loop-next-smaller-in-Idle
loop-next-smaller-in-Idle g c =
    let visited = rw (c.in-Idle.is, c.next_visit.ensures.same) at c.in_ok-again-in-Some.ensures.visited in
    subst (λ (w : CoreView). visits_left (rounds.to_do w) c.next_visit.new.cursor c.in-Some.next.from
    < visits_left (rounds.to_do c.loop-next.self) c.loop-next.cursor c.loop-next.from) (sym visited.0)
    (c.in-Some.ensures.less (rounds.to_do c.loop-next.self))

pub loop-next-preserved-in-Acted : goal.loop-next-preserved-in-Acted
loop-next-preserved-in-Acted g c =
    let visited = rw (c.in-Acted.is, c.next_visit.ensures.same) at c.in_ok-again-in-Some.ensures.visited in
    subst (λ (w : CoreView). IsGoingRound c.args.self.now w c.args.steps.now c.visit.new.steps c.acted.new.self 0)
    (sym c.hint_around.ensures)
    (rounds.went c.loop-next.invariant visited (c.acted.ensures.count ∙ c.next_visit.ensures.count))

pub loop-next-preserved-in-Idle : goal.loop-next-preserved-in-Idle
loop-next-preserved-in-Idle g c =
    let visited = rw (c.in-Idle.is, c.next_visit.ensures.same) at c.in_ok-again-in-Some.ensures.visited in
    rounds.passed c.loop-next.invariant visited.0 visited.1 visited.2 c.next_visit.ensures.count c.in-Some.ensures.still

pub returns-in-Differs-clause-ended : goal.returns-in-Differs-clause-ended
returns-in-Differs-clause-ended g c =
    let visited = rw (c.in-Differs.is, c.next_visit.ensures.same) at c.in_ok-again-in-Some.ensures.visited in (
      c.in-Some.next.owner,
      inl (subst (λ (v : CoreView). IsDifferent (design v.plan) v.plan.cycles v.held c.in-Some.next.owner c.in-Differs.query)
          (sym visited.0) visited.2),
    )

pub returns-in-Differs-clause-same : goal.returns-in-Differs-clause-same
returns-in-Differs-clause-same g c = λ f.
    let visited = rw (c.in-Differs.is, c.next_visit.ensures.same) at c.in_ok-again-in-Some.ensures.visited in
    absurd (rounds.never_differs c.loop-next.invariant f c.in-Some.next.owner c.in-Differs.query visited.2)

pub answer_least-requires : goal.answer_least-requires
answer_least-requires g c =
    rw c.next_visit.ensures.same (rounds.all_quiet c.loop-next.invariant (c.in-None.ensures.none refl))

pub loop-next-smaller : goal.loop-next-smaller
loop-next-smaller g c =
    let same = c.next_visit.ensures.same in
    let done = rw (c.in-Some-default-Same.field-0-1-is, same) at c.in-Some-default-Same.ensures.done in
    let least = rounds.was_least c.loop-next.self c.answer_least.new.self c.in-Some-default-Same.owner c.loop-next.steps
    (rw same at c.answer_least.ensures.plan) (rw same at c.answer_least.ensures.lent) (rounds.agreed_now c.loop-next.invariant) done in
    let less = c.acted-in-Some-default-Same.ensures.less _ _ (rounds.went_on c.loop-next.invariant least) in
    let no_more = c.next_visit.ensures.no_more (rounds.to_do c.loop-next.self) in
    subst (λ (w : CoreView). visits_left (rounds.to_do w) c.acted-in-Some-default-Same.new.self 0
    < visits_left (rounds.to_do c.loop-next.self) c.loop-next.cursor c.loop-next.from) (sym c.hint.ensures)
    (rounds.visits_fall _ _ c.loop-next.cursor.count c.acted-in-Some-default-Same.new.self.count c.loop-next.from 0
    (c.acted-in-Some-default-Same.ensures.count ∙ c.next_visit.ensures.count) (omega arith))

pub loop-next-preserved : goal.loop-next-preserved
loop-next-preserved g c =
    let same = c.next_visit.ensures.same in
    let done = rw (c.in-Some-default-Same.field-0-1-is, same) at c.in-Some-default-Same.ensures.done in
    subst (λ (w : CoreView). IsGoingRound c.args.self.now w c.args.steps.now c.loop-next.steps c.acted-in-Some-default-Same.new.self 0)
    (sym c.hint.ensures)
    (rounds.went c.loop-next.invariant
    (rounds.was_least c.loop-next.self c.answer_least.new.self c.in-Some-default-Same.owner c.loop-next.steps
    (rw same at c.answer_least.ensures.plan) (rw same at c.answer_least.ensures.lent) (rounds.agreed_now c.loop-next.invariant) done)
    (c.acted-in-Some-default-Same.ensures.count ∙ c.next_visit.ensures.count))

pub returns-in-Some-default-Differs-clause-same : goal.returns-in-Some-default-Differs-clause-same
returns-in-Some-default-Differs-clause-same g c = λ f.
    let done = rw (c.in-Some-default-Differs.field-0-1-is, c.next_visit.ensures.same) at c.in-Some-default-Differs.ensures.done in
    absurd (rounds.never_least c.loop-next.invariant f c.in-Some-default-Differs.field-0-0 c.in-Some-default-Differs.query done.1)

pub returns-in-None-answer_least-clause-ended : goal.returns-in-None-answer_least-clause-ended
returns-in-None-answer_least-clause-ended g c =
    let done = c.in-None-answer_least.ensures.done in
    subst (λ (v : CoreView). IsFinal (design v.plan) v.plan.cycles (theory_of v)) (sym done.0) done.1
