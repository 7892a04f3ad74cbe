-- Where the modules' runs stand, compared with the core, and what a core keeps.
use Rattle.std.specs.Prelude.{◌≡◌, ℕ, suc, ◌<◌, ◌≤◌, Bool, true, false, List, Option, None, Some, map, is_none, slice_index_or, length}
use Rattle.std.specs.Prelude.{slice_index, All}
use Rattle.flow_design.specs.{FitsEngine, Plan, Advance, ModuleState, declared.design.Module.Module}
use Rattle.lockstep_defs.specs.{module_at, Own}
use Rattle.module_interp.specs.{ModuleRun, rest_at, mark_at, StandsAt, waits, is_step, gap_of}
use Rattle.event_graph.specs.{Candidate, gap_bound}
use Rattle.event_timing.specs.{Core.Core, core_values, values_there, IsAgreed}
use Rattle.timing_bridge.specs.{design, lockstep_run, core_replies}
use Rattle.engine_view.specs.{core_of, IsSound, IsRoomy, Engine, held_in, kinds_in}
use Rattle.sim_core.specs.{Views.CoreView, Views.theory_of, Readers.AreReaders, Asking.AreBeside, Candidates.AreListed, Waking.AreDue}
use Rattle.sim_core.specs.{Unread.AreUnread, declared.due.DueModules.DueModules, declared.unread.Unread.Unread}
use Rattle.sim_core.specs.{declared.wiring.Wiring.Wiring, Opening.kinds_of, Opening.AreOwnPorts}

-- ---- runs

-- module m's rest after its first k steps, on the core's replies
abbrev pub rest_after : Plan → Core ModuleState → ℕ → ℕ → Own
rest_after p x m k = rest_at p m (core_replies p x m k) k

-- all replies to module m's newest step are there
abbrev pub IsAnswered : Plan → Core ModuleState → ℕ → Type 0
IsAnswered p x m = (k : ℕ) → suc k ≡ x.emitted m → (x.answered m k ≡ true) × (values_there (design p) x m k ≡ true)

-- the run is module m's: it waits at the module's newest step; or the replies to that step are there, and it goes on to the next
-- rest
pub record IsRunOf (p : Plan) (x : Core ModuleState) (m : ℕ) (run : ModuleRun) : Type 0 where
  pub waiting : waits run ≡ true → (k : ℕ) × (suc k ≡ x.emitted m) × StandsAt p m (rest_after p x m k) run
  pub going : waits run ≡ false → IsAnswered p x m × StandsAt p m (rest_after p x m (x.emitted m)) run
  pub over : x.over m ≡ true → waits run ≡ false

-- module m's run is this one, and it is out of the core
pub record IsOut (v : CoreView) (m : ℕ) (run : ModuleRun) : Type 0 where
  pub inside : m < length v.plan.design.modules
  pub lent : slice_index_or v.lent m true ≡ true
  pub run_is : IsRunOf v.plan (theory_of v) m run

-- the mark is module m's end, after all its emitted steps, to which every reply is there
pub record IsEndOf (p : Plan) (x : Core ModuleState) (m : ℕ) (mark : Advance) : Type 0 where
  pub no_step : is_step mark ≡ false
  pub short : gap_of mark < gap_bound
  pub answered : IsAnswered p x m
  pub is : mark ≡ mark_at p m (rest_after p x m (x.emitted m))

-- ---- a core

-- for each module whether its run is lent
abbrev pub lent_of : List (Option ModuleRun) → List Bool
lent_of runs = map is_none runs

-- what is held is a core of the plan that agrees with its lockstep run, with room, and each run stands at its module's newest mark;
-- nothing is said of outcomes that are assumed
pub record IsCore (p : Plan) (s : Engine) (runs : List (Option ModuleRun)) : Type 0 where
  pub fits : FitsEngine p
  pub sound : IsSound (design p) (held_in s)
  pub agreed : IsAgreed (design p) (lockstep_run p) p.cycles (core_of (design p) (held_in s))
  pub table : kinds_in s.fifos.channels ≡ kinds_of p
  pub count : length runs ≡ length s.graph.lanes
  pub counted : length s.credits.items ≡ length s.graph.lanes
  pub room : IsRoomy (design p) s
  pub runs_are : (m : ℕ) (run : ModuleRun) → slice_index_or runs m None ≡ Some run
      → IsRunOf p (core_of (design p) (held_in s)) m run
  pub ends_are : (m : ℕ) (mark : Advance) → slice_index_or s.ends.items m None ≡ Some mark
      → IsEndOf p (core_of (design p) (held_in s)) m mark

-- A function that takes the engine alone does not see the plan and the runs of its core: its contract tells of all that they may be.

-- this holds of some plan and runs
abbrev pub ForSomeCore : (Plan → List (Option ModuleRun) → Type 0) → Type 0
ForSomeCore Holds = (p : Plan) × ((runs : List (Option ModuleRun)) × Holds p runs)

-- the second holds of each plan and runs of which the first holds
abbrev pub ForEachCore : (Plan → List (Option ModuleRun) → Type 0) → (Plan → List (Option ModuleRun) → Type 0) → Type 0
ForEachCore First Second = (p : Plan) (runs : List (Option ModuleRun)) → First p runs → Second p runs

-- for each channel the unread values are some of its values, in order
abbrev pub AreUnreadIn : Plan → Engine → List Unread → Type 0
AreUnreadIn p s unread = AreUnread (core_values (design p) (core_of (design p) (held_in s))) (length p.design.channels)
    unread

-- no body of the module has more than `most` operations
abbrev pub HasBodiesWithin : Module → ℕ → Type 0
HasBodiesWithin m most = All (λ b. length b.ops ≤ most) m.blocks

-- so many operations has the longest body of the module: none has more, and no lesser number will do
pub record IsLongestBody (m : Module) (most : ℕ) : Type 0 where
  pub within : HasBodiesWithin m most
  pub least : (n : ℕ) → HasBodiesWithin m n → most ≤ n

-- the list has, for each of the first `many` modules, how many operations its longest body has
pub record AreBodyLengths (p : Plan) (many : ℕ) (lengths : List ℕ) : Type 0 where
  pub count : length lengths ≡ many
  pub each : (m : ℕ) → m < many → IsLongestBody (module_at p m) (slice_index lengths m)

-- what is found once for the plan is right: each module's ports, the module that pops each channel, those that share a channel, and
-- the lengths of bodies
pub record IsWired (p : Plan) (w : Wiring) : Type 0 where
  pub ports_are : AreOwnPorts p (length p.design.modules) w.ports
  pub readers_are : AreReaders p w.readers.items
  pub beside_are : AreBeside p w.hints
  pub bodies_are : AreBodyLengths p (length p.design.modules) w.bodies

-- what is stored is a core of the plan, and what is kept beside it is right: what was found once for the plan, the values that came back
-- unread, of which modules something may be permitted, and the candidates
pub record IsStoredCore (p : Plan) (s : Engine) (runs : List (Option ModuleRun)) (wiring : Wiring)
    (unread : List Unread) (due : DueModules) (candidates : List Candidate) : Type 0 where
  pub core : IsCore p s runs
  pub wired : IsWired p wiring
  pub unread_are : AreUnreadIn p s unread
  pub due_are : AreDue p (core_of (design p) (held_in s)) due
  pub listed_are : AreListed p (core_of (design p) (held_in s)) due candidates
