use Rattle.std.proofs.Common.{subst}
use Rattle.sim_core.specs.{IsAgreed, design, lockstep_run, IsSound, CoreView, theory_of}
use Rattle.sim_core.proofs.final_core.FinalCore.agrees.Goals as goal

pub returns-clause-agreed : goal.returns-clause-agreed
returns-clause-agreed c =
    subst (λ (v : CoreView). IsAgreed (design v.plan) (lockstep_run v.plan) v.plan.cycles (theory_of v)) c.core.ensures.core
    c.agrees.ensures.agreed

pub returns-clause-sound : goal.returns-clause-sound
returns-clause-sound c = subst (λ (v : CoreView). IsSound (design v.plan) v.held) c.core.ensures.core c.agrees.ensures.sound
