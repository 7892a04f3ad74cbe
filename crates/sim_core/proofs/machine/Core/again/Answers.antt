use Rattle.std.proofs.Common.{◌≡◌, subst, IfOk}
use Rattle.sim_core.specs.{Plan, opening_core, design, theory_of}
use Rattle.sim_core.proofs.machine.Core.again.Goals as goal

pub returns-clause-opening : goal.returns-clause-opening
returns-clause-opening c =
    subst (λ (p : Plan). IfOk c.begin.result (λ core. theory_of core ≡ opening_core (design p))) c.into_plan_and_runs-plan.ensures.plan
    c.begin.ensures.opening
