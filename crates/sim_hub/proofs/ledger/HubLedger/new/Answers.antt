use Rattle.std.proofs.Common.{List, false, sym, subst, vec_capacity}
use Rattle.sim_hub.specs.{HubTurn, KeepsTurns}
use Rattle.sim_hub.proofs.Keeping.{kept_new}
use Rattle.sim_hub.proofs.ledger.HubLedger.new.Goals as goal

pub invariant_of-result : goal.invariant_of-result
invariant_of-result c =
    let turns = c.in_ok-turns.turns in record {
      kept = subst (λ (ts : List HubTurn). KeepsTurns c.args.core ts 0 false (vec_capacity turns)) (sym c.in_ok-turns.ensures.items)
          (kept_new c.args.core (vec_capacity turns) c.requires.opening c.requires.own c.in_ok-turns.ensures.capacity);
    }
