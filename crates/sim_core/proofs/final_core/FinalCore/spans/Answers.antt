use Rattle.std.proofs.{Common.ap, Common.sym, Common.subst, Common.◌∙◌, Common.◌<◌, Common.length, lemmas.Result.IfOk-weaker}
use Rattle.std.specs.Prelude.{IfOk}
use Rattle.sim_core.specs.{clock_of, verdict, IsFinal, design, AreSpans, CoreView, theory_of}
use Rattle.engine_report.proofs.Stepping.{has_module}
use Rattle.sim_core.proofs.Ending.{finished}
use Rattle.sim_core.proofs.final_core.FinalCore.spans.Goals as goal

pub spans_of-requires : goal.spans_of-requires
spans_of-requires c =
    let final = subst (λ (v : CoreView). IsFinal (design v.plan) v.plan.cycles (theory_of v)) (sym c.core.view_is)
    c.core-core.ensures.is_final in
    let f = finished c.core.inside.plan c.core.inside.engine c.core.inside.runs.items c.core.invariant.core final in
    let inside = subst (λ (v : CoreView). c.args.owner < length v.plan.design.modules) (sym (c.core.view_is ∙ c.core-core.ensures.core))
    c.requires.owner in
    let m = has_module _ _ _ f c.args.owner inside in
    record { owner = m.lane; accesses = f.sound.inside; places = f.sound.places; ends = m.mark; short = m.short }

pub returns : goal.returns
returns c =
    let final = subst (λ (v : CoreView). IsFinal (design v.plan) v.plan.cycles (theory_of v)) (sym c.core.view_is)
    c.core-core.ensures.is_final in
    let f = finished c.core.inside.plan c.core.inside.engine c.core.inside.runs.items c.core.invariant.core final in
    let clock = c.requires.clock ∙ sym (ap (λ (v : CoreView). clock_of (verdict v.plan)) (c.core.view_is ∙ c.core-core.ensures.core)) in
    subst (λ (v : CoreView). IfOk c.spans_of.result (AreSpans v.plan c.args.owner)) (c.core.view_is ∙ c.core-core.ensures.core)
    (IfOk-weaker c.spans_of.result _ _ (λ spans h. h c.core.inside.plan f clock) c.spans_of.ensures)
