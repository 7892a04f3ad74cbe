use Rattle.std.proofs.Common.{◌≡◌, sym, subst}
use Rattle.depth_session.specs.{Plan, opening_core, design, theory_of}
use Rattle.depth_session.proofs.runner.Runner.run_plan.Goals as goal

pub simulate-requires-clause-opening : goal.simulate-requires-clause-opening
simulate-requires-clause-opening g c = λ κs outlives.
    subst (λ (p : Plan). theory_of c.in_ok-core.core ≡ opening_core (design p)) (sym c.in_ok-core.ensures.plan) c.in_ok-core.ensures.opening
