use Rattle.std.proofs.Common.{sym, subst}
use Rattle.sim_core.specs.{IsFinal, design, CoreView, theory_of}
use Rattle.sim_core.proofs.Ending.{finished}
use Rattle.sim_core.proofs.final_core.FinalCore.engine.Goals as goal

pub returns-clause-finished : goal.returns-clause-finished
returns-clause-finished c =
    let final = subst (λ (v : CoreView). IsFinal (design v.plan) v.plan.cycles (theory_of v)) (sym c.core.view_is)
    c.core-core.ensures.is_final in
    rw (← c.core-core.ensures.core, ← c.core.view_is)
    (finished c.core.inside.plan c.core.inside.engine c.core.inside.runs.items c.core.invariant.core final)
