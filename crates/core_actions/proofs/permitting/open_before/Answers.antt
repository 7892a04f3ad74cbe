use Rattle.std.proofs.{Common.sym, Common.ap, Common.◌∙◌, Common.ℕ, Common.arith, lemmas.Bool.Decides.nat_tests}
use Rattle.std.specs.{Prelude.Result, Result.result_err}
use Rattle.core_actions.specs.{design, theory_of, Cause}
use Rattle.core_actions.proofs.Causing as causing
use Rattle.core_actions.proofs.permitting.open_before.Goals as goal

pub returns-in-Ok-clause-open : goal.returns-in-Ok-clause-open
returns-in-Ok-clause-open c =
    let v = c.args.core.now in
    let open_at = causing.open_at (design v.plan) v.plan.cycles (theory_of v) c.args.owner c.args.cycle c.in-Ok.earlier c.in-Ok.ensures.at
    c.in-Ok.ensures.cause in
    let less = c.if-earlier-cycle.true in grind (arith, nat_tests)

pub returns-in_default-clause-open : goal.returns-in_default-clause-open
returns-in_default-clause-open c =
    let v = c.args.core.now in
    let open_at = causing.open_at (design v.plan) v.plan.cycles (theory_of v) c.args.owner c.args.cycle c.in-Ok.earlier c.in-Ok.ensures.at
    c.in-Ok.ensures.cause in
    let less = c.if-earlier-cycle.false in grind (arith, nat_tests)

pub returns-in_default-2-clause-open : goal.returns-in_default-2-clause-open
returns-in_default-2-clause-open c =
    let v = c.args.core.now in
    sym (causing.not_open (design v.plan) v.plan.cycles (theory_of v) c.args.owner c.args.cycle c.in_default.field-0
    (ap (λ (r : Result ℕ Cause). result_err r) (sym c.in_default.is) ∙ c.open_cycle.ensures.cause))
