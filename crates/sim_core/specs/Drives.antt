-- What rounds over the modules leave of a core.
use Rattle.std.specs.Prelude.{◌≡◌, ℕ, suc, ◌+◌, ◌-◌, ◌*◌, ◌<◌, ◌⊎◌, Bool, List, [], ◌∷◌, length, slice_index_or, true, false, Option, None}
use Rattle.std.specs.Prelude.{Some}
use Rattle.flow_design.specs.{FitsEngine}
use Rattle.query_log.specs.{Query}
use Rattle.outcome_guard.specs.{Guard}
use Rattle.event_timing.specs.{Action, ActsAll, IsFinal, MayRun, IsAgreed, work}
use Rattle.event_timing.specs.Actions.Action.{Run, Assign, Answer, Earliest}
use Rattle.engine_view.specs.{CursorView, turns_left, IsDifferent, IsIdle}
use Rattle.timing_bridge.specs.{design, lockstep_run}
use Rattle.sim_core.specs.{declared.visit.Visit.Visit, Views.CoreView, Views.theory_of, Turns.IsStill, Turns.IsEarliestOther}
use Rattle.sim_core.specs.declared.visit.Visit.TheVariants.{Acted, Differs, Idle}
use Rattle.outcome_guard.specs.declared.guard.Guard.TheVariants as guard

-- how many of these actions give a step its cycle
abbrev pub given : List Action → ℕ
given [] = 0
given (Run m ∷ rest) = given rest
given (Assign m ∷ rest) = suc (given rest)
given (Answer m ∷ rest) = given rest
given (Earliest m ∷ rest) = given rest

-- permitted actions lead from v to w, and a counter rose by one for each Assign
pub record Goes (v : CoreView) (before : ℕ) (w : CoreView) (after : ℕ) : Type 0 where
  pub actions : List Action
  pub all : ActsAll (design v.plan) v.plan.cycles (theory_of v) actions (theory_of w)
  pub ticked : after ≡ before + given actions
  pub plan : w.plan ≡ v.plan
  pub lent : w.lent ≡ v.lent

-- permitted actions lead from v to w, a counter rose by one for each Assign, and w has done more
pub record GoesOn (v : CoreView) (before : ℕ) (w : CoreView) (after : ℕ) : Type 0 where
  pub goes : Goes v before w after
  pub risen : work (design v.plan) (theory_of v) < work (design v.plan) (theory_of w)

-- permitted actions lead from v to w, and w has done more; or the answer is None, and nothing changed
abbrev pub GoesOnIf : {T : Type 0} → Option T → CoreView → ℕ → CoreView → ℕ → Type 0
GoesOnIf None v before w after = (w ≡ v) × (after ≡ before)
GoesOnIf (Some x) v before w after = GoesOn v before w after

-- permitted actions lead from v to w, where memory ran out at a Run of module m, which is permitted
pub record StopsAtRun (v : CoreView) (before m : ℕ) (w : CoreView) (after : ℕ) : Type 0 where
  pub goes : Goes v before w after
  pub permitted : MayRun (design w.plan) (theory_of w) m

-- the visit did some actions
abbrev pub has_acted : Visit → Bool
has_acted (Acted again) = true
has_acted (Differs q) = false
has_acted Idle = false

-- Assigns and Answers of module m lead from v to w, or none is permitted, or one finds a query with another outcome
abbrev pub VisitLeads : Visit → CoreView → ℕ → ℕ → CoreView → ℕ → Type 0
VisitLeads (Acted again) v before m w after = GoesOn v before w after
VisitLeads (Differs q) v before m w after = (w ≡ v) × (after ≡ before) × IsDifferent (design v.plan) v.plan.cycles v.held m q
VisitLeads Idle v before m w after = (w ≡ v) × (after ≡ before) × IsIdle (design v.plan) v.plan.cycles (theory_of v) m

-- a visit at module m leads from v to w, or nothing but an Earliest is permitted there, or an Answer finds a query with another
-- outcome
abbrev pub HasVisited : Visit → CoreView → ℕ → ℕ → CoreView → ℕ → Type 0
HasVisited (Acted again) v before m w after = GoesOn v before w after
HasVisited (Differs q) v before m w after = (w ≡ v) × (after ≡ before) × IsDifferent (design v.plan) v.plan.cycles v.held m q
HasVisited Idle v before m w after = (w ≡ v) × (after ≡ before) × IsStill v m

-- an Answer or an Earliest is permitted, and finds query q with another outcome
abbrev pub IsDiffering : CoreView → Query → Type 0
IsDiffering v q = (m : ℕ) × (IsDifferent (design v.plan) v.plan.cycles v.held m q ⊎ IsEarliestOther v m q)

abbrev pub HasDriven : Guard → CoreView → Type 0
HasDriven guard.Same w = IsFinal (design w.plan) w.plan.cycles (theory_of w)
HasDriven (guard.Differs q) w = IsDiffering w q

-- ---- rounds

-- no module's run is lent
abbrev pub AreOwn : CoreView → Type 0
AreOwn v = (m : ℕ) → m < length v.plan.design.modules → slice_index_or v.lent m true ≡ false

-- more visits than are left, where modules are looked for from this one on: a jump counts more than all modules
abbrev pub visits_left : ℕ → CursorView → ℕ → ℕ
visits_left actions c from = turns_left actions c * (c.count + 1) + (c.count - from)

-- what the rounds keep: from `first` to `now`, with so many ticks before and by now; of the modules below `from` nothing is permitted, but
-- perhaps an Earliest
pub record IsGoingRound (first now : CoreView) (before ticks : ℕ) (cursor : CursorView) (from : ℕ) : Type 0 where
  pub goes : Goes first before now ticks
  pub agreed : IsAgreed (design first.plan) (lockstep_run first.plan) first.plan.cycles (theory_of first)
  pub fits : FitsEngine first.plan
  pub own : AreOwn now
  pub counted : cursor.count ≡ length now.plan.design.modules
  pub still : (n : ℕ) → n < from → IsStill now n
