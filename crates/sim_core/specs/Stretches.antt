-- Actions of one module, one after the other.
use Rattle.std.specs.Prelude.{◌≡◌, ℕ, suc, ◌<◌, Bool, true, false, List, [], ◌∷◌, Option, None, Some, length, slice_index_or, ⊤}
use Rattle.flow_word.specs.{Port}
use Rattle.flow_design.specs.{Plan}
use Rattle.lockstep_defs.specs.{module_at}
use Rattle.module_interp.specs.{ModuleRun}
use Rattle.event_timing.specs.{Action, ActsAll, runs}
use Rattle.event_timing.specs.Actions.Action.{Run, Assign, Answer, Earliest}
use Rattle.timing_bridge.specs.{design}
use Rattle.engine_view.specs.{Engine, Timing, held_in, IsDifferent, IsIdle}
use Rattle.engine_view.specs.declared.turn.Timing.TheVariants.{Assigned, Answered}
use Rattle.sim_core.specs.{Opening.ports_to, Returned.core_in, Views.CoreView, Views.theory_of, declared.stretch.StretchEnd.StretchEnd}
use Rattle.sim_core.specs.{declared.stretch.Member.Member, Drives.GoesOn, declared.visit.Visit.Visit}
use Rattle.sim_core.specs.Runs.{HasBodiesWithin, IsCore, IsRunOf, lent_of}
use Rattle.sim_core.specs.declared.visit.Visit.TheVariants.{Acted, Differs, Idle}
use Rattle.sim_core.specs.declared.stretch.StretchEnd.TheVariants.{On, Still, Short}
use Rattle.engine_view.specs.declared.turn.Timing.TheVariants as timing

-- memory ran out
abbrev pub is_short : StretchEnd → Bool
is_short (On asks) = false
is_short Still = false
is_short Short = true

-- module m of the plan has these ports, and no body with more than `most` operations
pub record IsMember (p : Plan) (m : ℕ) (ports : List Port) (most : ℕ) : Type 0 where
  pub inside : m < length p.design.modules
  pub ports_are : ports ≡ ports_to p m (length p.design.channels)
  pub bodies_are : HasBodiesWithin (module_at p m) most

-- the member is a module of the plan, with its ports, and has no body with more operations than it says
abbrev pub IsMemberOf : Plan → Member → Type 0
IsMemberOf p k = IsMember p k.number k.ports.now k.body

-- module m's run is this one, and it is out of what is held of the plan
pub record IsOutOf (p : Plan) (s : Engine) (runs : List (Option ModuleRun)) (m : ℕ) (run : ModuleRun)
    : Type 0 where
  pub core : IsCore p s runs
  pub inside : m < length p.design.modules
  pub lent : slice_index_or (lent_of runs) m true ≡ true
  pub run_is : IsRunOf p (core_in p s) m run

-- the member's run is this one, and it is out of what is held of the plan; the ports and the bodies of the member are those of the plan
abbrev pub IsMemberOut : Plan → Engine → List (Option ModuleRun) → Member → ModuleRun → Type 0
IsMemberOut p s runs k run = IsOutOf p s runs k.number run × IsMemberOf p k

-- there is a run, it is module m's, and it is out of what is held of the plan
abbrev pub IsRunOut : Plan → Engine → List (Option ModuleRun) → ℕ → Option ModuleRun → Type 0
IsRunOut p s runs m None = ⊥
IsRunOut p s runs m (Some run) = IsOutOf p s runs m run

-- what is held is the same, with other room
abbrev pub IsHeldAlike : Engine → Engine → Type 0
IsHeldAlike s t = held_in t ≡ held_in s

-- count Runs of module m lead from v to w; where that is none, nothing has changed
pub record HasDoneRuns (v : CoreView) (m count : ℕ) (w : CoreView) : Type 0 where
  pub acts : ActsAll (design v.plan) v.plan.cycles (theory_of v) (runs count m) (theory_of w)
  pub same : count ≡ 0 → w ≡ v
  pub plan : w.plan ≡ v.plan
  pub lent : w.lent ≡ v.lent

-- ---- Assigns and Answers

-- what contracts see of what is held of the plan
abbrev pub view_in : Plan → Engine → List (Option ModuleRun) → CoreView
view_in p s runs = record { plan = p; held = held_in s; lent = lent_of runs }

-- what is held is a core of the plan, which has module m and this limit
pub record IsHeldOf (p : Plan) (s : Engine) (runs : List (Option ModuleRun)) (m limit : ℕ)
    : Type 0 where
  pub core : IsCore p s runs
  pub inside : m < length p.design.modules
  pub limited : limit ≡ p.cycles

-- each of the actions is an Assign or an Answer of module m; and then, how many of the actions are Answers
abbrev pub AreTimingsOf : ℕ → List Action → Type 0
AreTimingsOf m [] = ⊤
AreTimingsOf m (Run n ∷ rest) = ⊥
AreTimingsOf m (Assign n ∷ rest) = (n ≡ m) × AreTimingsOf m rest
AreTimingsOf m (Answer n ∷ rest) = (n ≡ m) × AreTimingsOf m rest
AreTimingsOf m (Earliest n ∷ rest) = ⊥

abbrev pub answers_among : List Action → ℕ
answers_among [] = 0
answers_among (Run n ∷ rest) = answers_among rest
answers_among (Assign n ∷ rest) = answers_among rest
answers_among (Answer n ∷ rest) = suc (answers_among rest)
answers_among (Earliest n ∷ rest) = answers_among rest

-- Assigns and Answers of module m, so many of them Answers, lead from v to w, and a counter rose by one for each Assign
pub record TimesOn (v : CoreView) (before m answers : ℕ) (w : CoreView) (after : ℕ) : Type 0 where
  pub on : GoesOn v before w after
  pub are : AreTimingsOf m on.goes.actions
  pub answered : answers_among on.goes.actions ≡ answers

-- an Assign of module m leads from v to w; or an Answer, and the Assign of the same step; or nothing changed, since an outcome
-- differs or neither is permitted
abbrev pub HasTimedOnce : Timing → CoreView → ℕ → ℕ → CoreView → ℕ → Type 0
HasTimedOnce (Assigned c) v before m w after = TimesOn v before m 0 w after
HasTimedOnce (Answered c) v before m w after = TimesOn v before m 1 w after
HasTimedOnce (timing.Differs q) v before m w after =
    (w ≡ v) × (after ≡ before) × IsDifferent (design v.plan) v.plan.cycles v.held m q
HasTimedOnce timing.Nothing v before m w after = (w ≡ v) × (after ≡ before) × IsIdle (design v.plan) v.plan.cycles (theory_of v) m

-- a stretch of Assigns and Answers of module m, so many of them Answers, leads from v to w; or nothing changed, since an outcome differs or
-- neither is permitted
abbrev pub StretchLeads : Visit → ℕ → CoreView → ℕ → ℕ → CoreView → ℕ → Type 0
StretchLeads (Acted again) answers v before m w after = TimesOn v before m answers w after
StretchLeads (Differs q) answers v before m w after =
    (w ≡ v) × (after ≡ before) × IsDifferent (design v.plan) v.plan.cycles v.held m q
StretchLeads Idle answers v before m w after = (w ≡ v) × (after ≡ before) × IsIdle (design v.plan) v.plan.cycles (theory_of v) m
