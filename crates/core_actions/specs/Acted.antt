-- What an action that is done by name makes of a core.
use Rattle.std.specs.Prelude.{◌≡◌, ℕ, ⊤, true, false, slice_index_or}
use Rattle.query_log.specs.{Query}
use Rattle.outcome_guard.specs.{Guard}
use Rattle.event_timing.specs.{Acts}
use Rattle.engine_view.specs.{Timing, IsDifferent}
use Rattle.engine_view.specs.declared.turn.Timing.TheVariants.{Assigned, Answered, Differs, Nothing}
use Rattle.timing_bridge.specs.{design}
use Rattle.core_actions.specs.{declared.actions.Action.Action, Causes.as_theory}
use Rattle.core_actions.specs.declared.actions.Action.TheVariants.{Run, Assign, Answer, Earliest}
use Rattle.sim_core.specs.{IsEarliestOther, CoreView, theory_of}
use Rattle.outcome_guard.specs.declared.guard.Guard.TheVariants as guard

-- the run that the action needs, if it is a Run, is not lent
abbrev pub HasRun : CoreView → Action → Type 0
HasRun v (Run m) = slice_index_or v.lent m true ≡ false
HasRun v (Assign m) = ⊤
HasRun v (Answer m) = ⊤
HasRun v (Earliest m) = ⊤

abbrev pub IsRun : Action → Type 0
IsRun (Run m) = ⊤
IsRun (Assign m) = ⊥
IsRun (Answer m) = ⊥
IsRun (Earliest m) = ⊥

-- how many steps the action gives a cycle: 0 or 1
abbrev pub gives : Action → ℕ
gives (Run m) = 0
gives (Assign m) = 1
gives (Answer m) = 0
gives (Earliest m) = 0

-- the action finds query q with another outcome
abbrev pub FindsOther : CoreView → Action → Query → Type 0
FindsOther v (Run m) q = ⊥
FindsOther v (Assign m) q = ⊥
FindsOther v (Answer m) q = IsDifferent (design v.plan) v.plan.cycles v.held m q
FindsOther v (Earliest m) q = IsEarliestOther v m q

-- the action is permitted and leads from v to w, or it finds a query with another outcome and nothing has changed
abbrev pub HasActed : Guard → CoreView → Action → CoreView → Type 0
HasActed guard.Same v a w =
    Acts (design v.plan) v.plan.cycles (theory_of v) (as_theory a) (theory_of w) × (theory_of w ≡ theory_of v → ⊥)
HasActed (guard.Differs q) v a w = (w ≡ v) × FindsOther v a q

-- what a turn at a module tells about the outcomes
abbrev pub guard_of : Timing → Guard
guard_of (Assigned c) = guard.Same
guard_of (Answered c) = guard.Same
guard_of (Differs q) = guard.Differs q
guard_of Nothing = guard.Same
