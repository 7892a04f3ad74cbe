use Rattle.std.proofs.Common.{sym, subst}
use Rattle.sim_core.specs.{Plan, AreOlderRuns}
use Rattle.sim_core.proofs.Beginning.{core_runs}
use Rattle.sim_core.proofs.machine.Core.into_plan_and_runs.Goals as goal

pub new-requires : goal.new-requires
new-requires c = c.self.invariant.core.fits

pub returns-clause-older : goal.returns-clause-older
returns-clause-older c =
    subst (λ (p : Plan). AreOlderRuns p c.self.inside.runs.items) (sym c.new.ensures)
    (core_runs c.self.inside.plan _ c.self.inside.runs.items c.self.invariant.core)
