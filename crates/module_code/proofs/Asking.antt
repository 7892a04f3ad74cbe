-- What the due operations ask, by the code of their block.
use Rattle.std.proofs.Common.{◌≡◌, refl, ap, ℕ, Bool, true, false, cond, List, [], ◌∷◌, length, Option}
use Rattle.std.specs.List.{cons_option, filter_map}
use Rattle.module_code.specs.{Channel, Due, Request, block_of, IsModuleSound, ModuleState, request_for, Guarded, action_request}
use Rattle.module_code.specs.{IsGuardedOf, IsActionAt, IsDueSound, IsStateSound}
use Rattle.flow_design.specs.declared.design.Module.{Module}
use Rattle.module_code.proofs.Readiness.{op_ready}

-- the action of a due operation
pub action_at : (channels : List Channel) (m : Module) (s : ModuleState) (room iteration : ℕ) (g : Guarded)
    → IsModuleSound (length channels) m
    → IsStateSound m s → IsGuardedOf channels m (block_of m s) room g
    → IsDueSound m s (record { iteration = iteration; op = g.slot.op })
    → IsActionAt m s (record { iteration = iteration; op = g.slot.op }) g.action
action_at channels m s room iteration g of sound is there = record {
  value = is.action.values s iteration;
  address = is.action.addresses s iteration;
  ready = is.action.ready s iteration (op_ready (length channels) m s (record { iteration = iteration; op = g.slot.op }) of sound there);
}

-- what it asks, if it is due
pub asked_once : (channels : List Channel) (m : Module) (s : ModuleState) (room iteration : ℕ) (g : Guarded)
    → IsGuardedOf channels m (block_of m s) room g → (test : Bool)
    → filter_map (λ (e : Due). action_request s e.iteration g.action) (cond test (record { iteration = iteration; op = g.slot.op } ∷ []) [])
    ≡ filter_map (request_for channels m s) (cond test (record { iteration = iteration; op = g.slot.op } ∷ []) [])
asked_once channels m s room iteration g is true =
    ap (λ (r : Option Request). cons_option r []) (is.action.requests s iteration)
asked_once channels m s room iteration g is false = refl
