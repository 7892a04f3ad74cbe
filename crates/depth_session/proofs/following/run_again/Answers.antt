use Rattle.std.proofs.Common.{◌≡◌, sym, subst}
use Rattle.depth_session.specs.{Plan, opening_core, design, theory_of}
use Rattle.depth_session.proofs.following.run_again.Goals as goal

pub second_core-requires-clause-opening : goal.second_core-requires-clause-opening
second_core-requires-clause-opening g c = λ κs outlives.
    subst (λ (p : Plan). theory_of c.in_ok-opening.opening ≡ opening_core (design p)) (sym c.in_ok-opening.ensures.plan)
    c.in_ok-opening.ensures.opening
