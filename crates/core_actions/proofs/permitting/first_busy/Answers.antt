use Rattle.std.proofs.Common.{◌<◌, sym, ◌∙◌, length, arith}
use Rattle.core_actions.specs.{design, theory_of, is_busy}
use Rattle.core_actions.proofs.Firsts as firsts
use Rattle.core_actions.proofs.permitting.first_busy.Goals as goal

pub returns-then-is_busy : goal.returns-then-is_busy
returns-then-is_busy c =
    let v = c.args.core.now in
    let count = c.modules-owner-end.ensures.count in
    let test = c.loop-owner-test.true in
    let l : c.loop-owner.owner < length v.plan.design.modules = omega arith in
    sym (firsts.module_found (is_busy (design v.plan) v.plan.cycles (theory_of v)) (length v.plan.design.modules) c.loop-owner.owner l
    c.loop-owner.invariant (sym c.is_busy.ensures ∙ c.if-is_busy.true))

pub loop-owner-preserved : goal.loop-owner-preserved
loop-owner-preserved c =
    let v = c.args.core.now in
    firsts.none_more (is_busy (design v.plan) v.plan.cycles (theory_of v)) c.loop-owner.owner c.loop-owner.invariant
    (sym c.is_busy.ensures ∙ c.if-is_busy.false)

pub returns : goal.returns
returns c =
    let v = c.args.core.now in
    sym (firsts.no_module_found (is_busy (design v.plan) v.plan.cycles (theory_of v)) (length v.plan.design.modules) (λ k l.
    let count = c.modules-owner-end.ensures.count in
    let test = c.loop-owner-test.false in c.loop-owner.invariant k (omega arith)))
