use Rattle.std.proofs.Common.{arith}
use Rattle.core_actions.specs.{design, theory_of}
use Rattle.core_actions.proofs.Causing as causing
use Rattle.core_actions.proofs.permitting.open_cycle.Goals as goal

pub returns-then-is_none-2-clause-cause : goal.returns-then-is_none-2-clause-cause
returns-then-is_none-2-clause-cause c =
    let v = c.args.core.now in
    let decides = causing.decides_none (design v.plan) v.plan.cycles (theory_of v) c.args.owner in
    let cycle = c.in_ok-cycle.ensures.cause in
    let verified = c.first_unverified.ensures.verified in
    let undecided = c.first_undecided.ensures in
    let place = c.first_place-then-is_none-2.ensures in
    let none = c.if-is_none-2.true in
    let some = c.if-is_none.false in grind arith

pub returns-clause-cause : goal.returns-clause-cause
returns-clause-cause c =
    let v = c.args.core.now in
    let decides = causing.decides_none (design v.plan) v.plan.cycles (theory_of v) c.args.owner in
    let cycle = c.in_ok-cycle.ensures.cause in
    let verified = c.first_unverified.ensures.verified in
    let undecided = c.first_undecided.ensures in
    let none = c.if-is_none-2.false in
    let some = c.if-is_none.false in grind arith
