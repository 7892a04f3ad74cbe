-- The histories of a plan.
use Rattle.std.proofs.Common.{◌≡◌, Some, List}
use Rattle.timing_bridge.specs.{Plan, ModuleState, FitsEngine, opening_core, IsAgreed, AllVerified, design, lockstep_run, HubTurn}
use Rattle.timing_bridge.specs.{opening_turned, IsHistoryOf, IsTurn, standing_of, turned_by, Turned.Turned}
use Rattle.event_timing.proofs.{Agreement.opening_agrees, ActionBound.all_rise, ActionBound.none_assumed}
use Rattle.timing_bridge.proofs.History.{plan_is_design, run_is_history}
use Rattle.timing_bridge.proofs.{Orders.reached_agrees, Turning.turn_is, Legal.turns_act, Legal.turns_are}

module _ (p : Plan) (fits : FitsEngine p) where
  opening_agreed : IsAgreed (design p) (lockstep_run p) p.cycles (opening_core (design p))
  opening_agreed = opening_agrees (design p) (lockstep_run p) (plan_is_design p fits) (run_is_history p fits) p.cycles

  pub history_is : (turns : List HubTurn) (v : Turned ModuleState) → standing_of p turns ≡ Some v → IsHistoryOf p turns v
  history_is turns v e =
      turns_are (design p) (lockstep_run p) (plan_is_design p fits) (run_is_history p fits) p.cycles (opening_turned (design p)) v
      opening_agreed (none_assumed (design p)) turns e

  pub history_agrees : (turns : List HubTurn) (v : Turned ModuleState) → IsHistoryOf p turns v
      → IsAgreed (design p) (lockstep_run p) p.cycles v.core
  history_agrees turns v t =
      let (actions, a) = turns_act (design p) p.cycles (opening_turned (design p)) v turns t in
      reached_agrees p fits p.cycles actions v.core a

  pub history_verified : (turns : List HubTurn) (v : Turned ModuleState) → IsHistoryOf p turns v → AllVerified v.core
  history_verified turns v t =
      let (actions, a) = turns_act (design p) p.cycles (opening_turned (design p)) v turns t in
      (all_rise (design p) (lockstep_run p) (plan_is_design p fits) (run_is_history p fits) p.cycles (opening_core (design p))
      opening_agreed (none_assumed (design p)) actions v.core a).2

  pub next_turn : (turns : List HubTurn) (v w : Turned ModuleState) → IsHistoryOf p turns v → (turn : HubTurn)
      → turned_by p v turn ≡ Some w → IsTurn p v turn w
  next_turn turns v w t turn e =
      turn_is (design p) (lockstep_run p) (plan_is_design p fits) (run_is_history p fits) p.cycles v w (history_agrees turns v t)
      (history_verified turns v t) turn e
