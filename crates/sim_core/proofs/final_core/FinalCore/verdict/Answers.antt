use Rattle.std.proofs.Common.{sym, subst}
use Rattle.sim_core.specs.{IsFinal, design, CoreView, theory_of}
use Rattle.sim_core.proofs.Ending.{finished}
use Rattle.sim_core.proofs.final_core.FinalCore.verdict.Goals as goal

pub verdict_of-requires : goal.verdict_of-requires
verdict_of-requires c =
    let final = subst (λ (v : CoreView). IsFinal (design v.plan) v.plan.cycles (theory_of v)) (sym c.core.view_is)
    c.core-core.ensures.is_final in
    finished c.core.inside.plan c.core.inside.engine c.core.inside.runs.items c.core.invariant.core final
