use Rattle.std.proofs.{Common.◌∙◌, Common.ap, lemmas.Result.IfOk-weaker}
use Rattle.depth_advice.specs.{Plan, report, CoreView}
use Rattle.depth_advice.proofs.Finding.{advised_by}
use Rattle.depth_advice.proofs.advising.advised_depths.Goals as goal

pub returns-clause-verdict : goal.returns-clause-verdict
returns-clause-verdict g c =
    let same = ap (λ (v : CoreView). v.plan) c.new.ensures ∙ (c.in_ok-core.ensures.plan ∙ c.widen.ensures) in
    IfOk-weaker c.read_depths.result _ _ (λ a told. told ∙ ap (λ (q : Plan). (report q).verdict) same)
    c.read_depths.ensures.verdict

pub returns-clause-depths : goal.returns-clause-depths
returns-clause-depths g c =
    let same = ap (λ (v : CoreView). v.plan) c.new.ensures ∙ (c.in_ok-core.ensures.plan ∙ c.widen.ensures) in
    IfOk-weaker c.read_depths.result _ _ (λ a found. advised_by c.args.plan c.new.result.plan a.depths same found)
    c.read_depths.ensures.depths
