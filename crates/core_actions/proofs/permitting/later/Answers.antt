use Rattle.std.proofs.Common.{sym, ◌<◌, length, arith}
use Rattle.core_actions.specs.{design, theory_of, is_earlier}
use Rattle.core_actions.proofs.Causing as causing
use Rattle.core_actions.proofs.Firsts as firsts
use Rattle.core_actions.proofs.permitting.later.Goals as goal

pub returns-in-Some : goal.returns-in-Some
returns-in-Some c =
    let v = c.args.core.now in
    let count = c.modules-other-end.ensures.count in
    let test = c.loop-other-test.true in
    let l : c.loop-other.other < length v.plan.design.modules = omega arith in
    causing.later_found (design v.plan) v.plan.cycles (theory_of v) c.args.owner c.loop-other.other c.in-Some.earlier l
    c.loop-other.invariant (rw c.requires (sym c.in-Some.ensures.open)) c.in-Some.ensures.at

pub loop-other-preserved : goal.loop-other-preserved
loop-other-preserved c =
    let v = c.args.core.now in
    firsts.none_more (is_earlier (design v.plan) v.plan.cycles (theory_of v) c.args.owner) c.loop-other.other c.loop-other.invariant
    (rw c.requires (sym c.in_default.ensures.open))

pub returns : goal.returns
returns c =
    let v = c.args.core.now in
    causing.later_none (design v.plan) v.plan.cycles (theory_of v) c.args.owner (λ k l.
    let count = c.modules-other-end.ensures.count in
    let test = c.loop-other-test.false in c.loop-other.invariant k (omega arith))
