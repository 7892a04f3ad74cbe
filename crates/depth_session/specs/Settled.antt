-- The core of a session, before and after an edit.
use Rattle.std.specs.Prelude.{ℕ, Bool, List, []}
use Rattle.flow_design.specs.{Edit, Plan}
use Rattle.outcome_guard.specs.{Guard, RunCount, next_counts}
use Rattle.outcome_guard.specs.declared.guard.Guard.TheVariants.{Same, Differs}
use Rattle.lockstep_defs.specs.{report}
use Rattle.event_timing.specs.{IsFinal, MayRun}
use Rattle.timing_bridge.specs.{design}
use Rattle.sim_core.specs.{CoreView, theory_of, AreOwn, IsDiffering, IsEditedOn, recorded_in}
use Rattle.depth_session.specs.{Records.run_count, Sessions.SessionView, declared.state.State.State}
use Rattle.depth_session.specs.declared.state.State.TheVariants as state

-- the core is settled: it is final, and no run is lent
pub record IsCoreSettled (v : CoreView) : Type 0 where
  pub final : IsFinal (design v.plan) v.plan.cycles (theory_of v)
  pub own : AreOwn v

-- the count after the report of this plan
abbrev pub next_count : RunCount → Plan → RunCount
next_count count p = next_counts count (report p).answers

-- ---- what a session has

abbrev pub plan_in : State → Plan
plan_in (state.Core v) = v.plan
plan_in (state.Plan p) = p

-- the outcomes that are recorded
abbrev pub recorded_by : State → List (List Bool)
recorded_by (state.Core v) = recorded_in v.held.logs
recorded_by (state.Plan p) = []

abbrev pub HasCore : State → Type 0
HasCore (state.Core v) = Unit {0}
HasCore (state.Plan p) = ⊥

abbrev pub IsStateSettled : State → Type 0
IsStateSettled (state.Core v) = IsCoreSettled v
IsStateSettled (state.Plan p) = ⊥

-- the answers that are kept are the outcomes that are recorded
abbrev pub count_in : State → ℕ → RunCount
count_in s runs = run_count (recorded_by s) runs

abbrev pub session_with : State → ℕ → Bool → SessionView
session_with s runs live = record { plan = plan_in s; count = count_in s runs; live = live }

-- a Run of some module is permitted
abbrev pub MayRunSome : CoreView → Type 0
MayRunSome w = (m : ℕ) × MayRun (design w.plan) (theory_of w) m

-- the edited core is settled again, or a query is found with another outcome
abbrev pub HasGoneOn : Guard → CoreView → Edit → CoreView → Type 0
HasGoneOn Same v e w = IsEditedOn v e w × IsCoreSettled w
HasGoneOn (Differs q) v e w = IsEditedOn v e w × IsDiffering w q
