use Rattle.std.proofs.{Common.rules, Common.arith, Common.subst, Common.sym, lemmas.Result.on_ok_weaker}
use Rattle.timelines.specs.{Comes}
use Rattle.timelines.proofs.Going.{comes_more, comes_longer}
use Rattle.timelines.proofs.span_list.extend.Goals as goal

pub returns-then-says_last-clause-spans : goal.returns-then-says_last-clause-spans
returns-then-says_last-clause-spans c = on_ok_weaker c.go_longer.result
    (λ e p i h f. subst (Comes p i) (sym e)
    (comes_longer c.args.spans.now c.args.until c.args.doing (search (rules, arith)) (search rules) (search rules) p i h f))
    c.go_longer.ensures

pub returns-clause-spans : goal.returns-clause-spans
returns-clause-spans c = on_ok_weaker c.push.result
    (λ e p i h f. subst (Comes p i) (sym e)
    (search (rules, comes_more c.args.spans.now c.args.until c.args.doing (search (rules, arith)) (search rules) p i h f)))
    c.push.ensures.ok
