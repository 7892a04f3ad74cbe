-- The theory's laws on lists of actions, for plans.
use Rattle.std.proofs.Common.{ℕ, List}
use Rattle.timing_bridge.specs.{Plan, ModuleState, FitsEngine, opening_core, Action, ActsAll, IsAgreed, design, lockstep_run}
use Rattle.event_timing.specs.Core.{Core}
use Rattle.event_timing.proofs.Agreement.{all_agree, opening_agrees}
use Rattle.timing_bridge.proofs.History.{plan_is_design, run_is_history}

-- a core that agrees goes on to agree
pub agrees_on : (p : Plan) → FitsEngine p → (limit : ℕ) (x : Core ModuleState) → IsAgreed (design p) (lockstep_run p) limit x
    → (actions : List Action) (y : Core ModuleState) → ActsAll (design p) limit x actions y → IsAgreed (design p) (lockstep_run p) limit y
agrees_on p h limit x g actions y s = all_agree (design p) (lockstep_run p) (plan_is_design p h) (run_is_history p h) limit x g actions y s

-- so does each that is reached from the opening core
pub reached_agrees : (p : Plan) → FitsEngine p → (limit : ℕ) (actions : List Action) (x : Core ModuleState)
    → ActsAll (design p) limit (opening_core (design p)) actions x → IsAgreed (design p) (lockstep_run p) limit x
reached_agrees p h limit actions x s =
    agrees_on p h limit (opening_core (design p))
    (opening_agrees (design p) (lockstep_run p) (plan_is_design p h) (run_is_history p h) limit) actions x s
