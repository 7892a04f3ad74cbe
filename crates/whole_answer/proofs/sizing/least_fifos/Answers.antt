use Rattle.std.proofs.Common.{◌≡◌, sym, subst, IfOk}
use Rattle.whole_answer.specs.{AsksNothing, declared.answer.Answer.Answer}
use Rattle.whole_answer.proofs.Queries.{answered, refused}
use Rattle.whole_answer.proofs.sizing.least_fifos.Goals as goal

pub returns-then-asks_nothing : goal.returns-then-asks_nothing
returns-then-asks_nothing g c =
    let quiet = subst AsksNothing c.plan.ensures.plan (c.asks_nothing.ensures.quiet c.if-asks_nothing.true) in
    subst (λ (a : Answer). IfOk c.fewest_bits.result (λ whole. whole ≡ a)) (answered c.args.slack c.args.plan.now quiet)
    c.fewest_bits.ensures

pub returns-else-asks_nothing : goal.returns-else-asks_nothing
returns-else-asks_nothing g c =
    subst (λ (a : Answer). IfOk c.refuse.result (λ whole. whole ≡ a))
    (refused c.args.slack c.args.plan.now (λ quiet. c.asks_nothing.ensures.asks c.if-asks_nothing.false
    (subst AsksNothing (sym c.plan.ensures.plan) quiet))) c.refuse.ensures
