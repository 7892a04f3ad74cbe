use Rattle.std.proofs.Common.{◌≡◌, sym, subst}
use Rattle.thread_tests.specs.{Plan, opening_core, design, theory_of, hub_id}
use Rattle.thread_tests.proofs.Rests.{new_resting}
use Rattle.thread_tests.proofs.passes.open.Goals as goal

pub new-requires-2-clause-opening : goal.new-requires-2-clause-opening
new-requires-2-clause-opening g c =
    subst (λ (p : Plan). theory_of c.in_ok-core.core ≡ opening_core (design p)) (sym c.in_ok-core.ensures.plan) c.in_ok-core.ensures.opening

pub returns : goal.returns
returns g c =
    let made = c.in_ok-hub.ensures in record {
      resting =
          new_resting (hub_id c.in_ok-hub.hub) c.in_ok-core.core.plan c.in_ok-hub.perf c.in_ok-hub.modules.items made.perf.0
          made.made
          made.modules;
    }
