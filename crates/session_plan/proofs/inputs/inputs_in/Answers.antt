use Rattle.std.proofs.Common.{◌≡◌, ◌+◌, ◌<◌, ◌++◌, ◌∷◌, ℕ, List, [], take, length, get_or, rules, sym, ap, ◌∙◌, add-one, subst}
use Rattle.std.proofs.{Math.Seq.take-suc, lemmas.List.take_all, lemmas.List.get_or_default}
use Rattle.session_plan.specs.{Statement, values_for}
use Rattle.flow_design.specs.declared.session.Statement.TheVariants.{End}
use Rattle.session_plan.proofs.Giving.{taken, AreGiven, given_more, given_all}
use Rattle.session_plan.proofs.inputs.inputs_in.Goals as goal

pub loop-statement-preserved : goal.loop-statement-preserved
loop-statement-preserved c =
    let s : Statement = get_or c.args.statements.now c.loop-statement.statement-index End in
    let more : take (c.loop-statement.statement-index + 1) c.args.statements.now
    ≡ take c.loop-statement.statement-index c.args.statements.now ++ s ∷ []
    = ap (λ (k : ℕ). take k c.args.statements.now) (add-one c.loop-statement.statement-index)
    ∙ take-suc c.args.statements.now c.loop-statement.statement-index End c.loop-statement-test.true in
    let is : c.statement-item.result ≡ s = search (rules, get_or_default {X = Statement}) in
    let told : (f : ℕ) → f < length c.args.channels.now
    → get_or c.add_values.new.inputs f []
    ≡ get_or c.loop-statement.inputs f [] ++ taken c.args.channels.now f (values_for c.args.names.now f s)
    = λ f there. c.in_ok-add_values.ensures.given f there
    ∙ ap (λ (t : Statement). get_or c.loop-statement.inputs f [] ++ taken c.args.channels.now f (values_for c.args.names.now f t)) is in
    subst (λ (l : List Statement). AreGiven c.args.names.now c.args.channels.now l c.add_values.new.inputs) (sym more)
    (given_more c.args.names.now c.args.channels.now
    (take c.loop-statement.statement-index c.args.statements.now) s c.loop-statement.inputs c.add_values.new.inputs
    c.loop-statement.invariant c.in_ok-add_values.ensures.long told)

pub returns : goal.returns
returns c = given_all c.args.names.now c.args.channels.now c.args.statements.now c.loop-statement.inputs
    (subst (λ (l : List Statement). AreGiven c.args.names.now c.args.channels.now l c.loop-statement.inputs)
    (take_all c.loop-statement.statement-index c.args.statements.now c.loop-statement-test.false) c.loop-statement.invariant)
