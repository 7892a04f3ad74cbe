use Rattle.std.proofs.Common.{◌∙◌, ap}
use Rattle.flow_design.proofs.Failing.{on_err}
use Rattle.whole_answer.specs.{CoreView}
use Rattle.whole_answer.proofs.Shown.{shown_prefix, shown_rest}
use Rattle.whole_answer.proofs.showing.show.Goals as goal

pub returns-in_err-text-clause-prefix : goal.returns-in_err-text-clause-prefix
returns-in_err-text-clause-prefix g c =
    let same = ap (λ (v : CoreView). v.plan) c.new-core.ensures ∙ c.in_ok-run.ensures.plan in
    on_err _ (shown_prefix c.args.view c.args.options.now c.args.plan _ _ _ same c.in_err-text.ensures.prefix)

pub returns-clause-rest : goal.returns-clause-rest
returns-clause-rest g c =
    let same = ap (λ (v : CoreView). v.plan) c.new-core.ensures ∙ c.in_ok-run.ensures.plan in
    shown_rest c.args.view c.args.options.now c.args.plan _ _ _ _ c.verdict.result _ same c.in_ok-text.ensures.rest
    c.verdict.ensures c.of-ending.ensures
