-- Opening and closing a hub.
use Rattle.std.specs.Prelude.{◌≡◌, ℕ, ◌+◌, ◌<◌, List, [], false, Some, slice_get}
use mathlib.Core.List.{IsPrefix}
use Rattle.flow_design.specs.{Plan, ModuleState}
use Rattle.turn_lock.specs.{entries_of, Passes.TableId}
use Rattle.event_timing.specs.{IsFinal}
use Rattle.timing_bridge.specs.{design, HubEntry, bearer, history_of, Stands, Turned.Turned}
use Rattle.sim_core.specs.{theory_of, AreOwn}
use Rattle.sim_hub.specs.{declared.pass.PerfPass.PerfPass, declared.pass.ModulePass.ModulePass, declared.answer.Threaded.Threaded}
use Rattle.sim_hub.specs.{declared.answer.Closed.Closed, Places.HoldsAfter, Places.HasNoDeskOut, Places.IsLegal}
use Rattle.sim_hub.specs.Hubs.{module_of, module_hub, module_view, perf_view, WasShort}
use Rattle.sim_hub.specs.declared.answer.Closed.TheVariants as closed

-- these passes are of this hub
abbrev pub AreOfHub : TableId → List ModulePass → Type 0
AreOfHub id passes = (k : ℕ) (p : ModulePass) → slice_get passes k ≡ Some p → module_hub p ≡ id

-- the pass of each module for which the performance pass has made one is among these, in any order
abbrev pub HasEachModule : PerfPass → List ModulePass → Type 0
HasEachModule perf passes =
    (m : ℕ) → m < (perf_view perf).made → (k : ℕ) × (p : ModulePass) × (slice_get passes k ≡ Some p) × (module_of p ≡ m)

-- none of these passes has a desk out
abbrev pub AllHome : List ModulePass → Type 0
AllHome passes = (k : ℕ) (p : ModulePass) → slice_get passes k ≡ Some p → HasNoDeskOut (module_of p) (module_view p)

-- these are the passes of the first modules of this hub, in order, and each has seen just this history
abbrev pub AreFrom : TableId → List HubEntry → List ModulePass → Type 0
AreFrom id seen passes = (k : ℕ) (p : ModulePass) → slice_get passes k ≡ Some p
    → (module_of p ≡ k) × (module_hub p ≡ id) × ((module_view p).seen ≡ seen)

-- these are the passes of the first modules of a hub that was just opened for the plan, in order
abbrev pub AreNew : TableId → Plan → List ModulePass → Type 0
AreNew id plan passes = AreFrom id (history_of plan []) passes

-- the turns are a legal history of the plan in which memory never ran out; they lead to the core, which is final, and of which no
-- run is lent
pub record IsWholeRun (plan : Plan) (t : Threaded) : Type 0 where
  pub at : Turned ModuleState
  pub stands : Stands plan (history_of plan t.turns.items) at
  pub memory : at.short ≡ false
  pub core : theory_of t.core ≡ at.core
  pub plan_is : t.core.plan ≡ plan
  pub final : IsFinal (design plan) plan.cycles at.core
  pub own : AreOwn t.core

-- the history of a hub whose passes all came back: it begins with what each has seen, and has each pass's own entries and no others
pub record IsWholeHistory (perf : PerfPass) (modules : List ModulePass) (log : List HubEntry) : Type 0 where
  pub legal : IsLegal log
  pub first : IsPrefix (perf_view perf).seen log
  pub first_own : entries_of bearer 0 log ≡ (perf_view perf).own
  pub others : (k : ℕ) (p : ModulePass) → slice_get modules k ≡ Some p
      → IsPrefix (module_view p).seen log × (entries_of bearer (module_of p + 1) log ≡ (module_view p).own)
  pub none_else : (n : ℕ) → (perf_view perf).made < n → entries_of bearer n log ≡ []

-- the hub leaves a final core with all turns of this history, or memory ran out in it
abbrev pub EndsAt : List HubEntry → Closed → Type 0
EndsAt log (closed.Final t) = (log ≡ history_of t.core.plan t.turns.items) × IsWholeRun t.core.plan t
EndsAt log closed.Short = HoldsAfter log WasShort

abbrev pub ClosedIs : PerfPass → List ModulePass → Closed → Type 0
ClosedIs perf modules c = (log : List HubEntry) × IsWholeHistory perf modules log × EndsAt log c
