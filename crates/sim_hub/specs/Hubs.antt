-- What the answers of a hub mean.
use Rattle.std.specs.Prelude.{◌≡◌, ◌⊎◌, ℕ, ◌+◌, ◌<◌, List, length, Bool, true, false, None}
use Rattle.flow_design.specs.{Plan, ModuleState}
use Rattle.lockstep_defs.specs.{Own}
use Rattle.module_interp.specs.{StandsAt}
use Rattle.module_sets.specs.{Has, capacity}
use Rattle.turn_lock.specs.{PassView, lock_id, Passes.TableId, Passes.pass_lock, Passes.view_of}
use Rattle.event_timing.specs.{MayRun, MayEarliest, IsFinal}
use Rattle.timing_bridge.specs.{design, HubEntry, lent_at, NoTiming, Turned.Turned}
use Rattle.timing_bridge.specs.declared.turn.HubTurn.TheVariants.{Lent, Ran, Timed, Short}
use Rattle.run_ahead.specs.{Task, Burst, IsBurst, StandsSomewhere}
use Rattle.sim_core.specs.{IsTaskOf}
use Rattle.sim_hub.specs.{declared.hub.Hub.Hub, declared.pass.PerfPass.PerfPass, declared.pass.ModulePass.ModulePass}
use Rattle.sim_hub.specs.{declared.answer.Desk.Desk, declared.answer.PerfAnswer.PerfAnswer}
use Rattle.sim_hub.specs.Places.{HoldsAfter, HasAdded, HasLooked, HasDesk, HasNoDesk}
use Rattle.sim_hub.specs.declared.answer.Desk.TheVariants as desk
use Rattle.sim_hub.specs.declared.answer.PerfAnswer.TheVariants as perf

-- the identity of a hub
abbrev pub hub_id : Hub → TableId
hub_id h = lock_id h.lock

-- the module of a pass, the hub of a pass, and what the pass knows
abbrev pub module_of : ModulePass → ℕ
module_of p = p.which

abbrev pub module_hub : ModulePass → TableId
module_hub p = pass_lock p.place.pass

abbrev pub module_view : ModulePass → PassView HubEntry
module_view p = view_of p.place.pass

-- the hub of the performance pass, and what it knows; and then, a pass is one of this hub
abbrev pub perf_hub : PerfPass → TableId
perf_hub p = pass_lock p.place.pass

abbrev pub perf_view : PerfPass → PassView HubEntry
perf_view p = view_of p.place.pass

abbrev pub IsOfHub : Hub → ModulePass → Type 0
IsOfHub h p = module_hub p ≡ hub_id h

abbrev pub IsPerfOf : Hub → PerfPass → Type 0
IsPerfOf h p = perf_hub p ≡ hub_id h

-- ---- where a history leads

-- no Run of module m is permitted, the core is not final, and memory did not run out
pub record IsHeld (m : ℕ) (p : Plan) (at : Turned ModuleState) : Type 0 where
  pub no_run : MayRun (design p) at.core m → ⊥
  pub more : IsFinal (design p) p.cycles at.core → ⊥
  pub memory : at.short ≡ false

-- no Assign, Answer or Earliest is permitted, the core is not final, and memory did not run out
pub record IsHubIdle (p : Plan) (at : Turned ModuleState) : Type 0 where
  pub no_timing : NoTiming (design p) p.cycles at.core
  pub no_earliest : (m c : ℕ) → MayEarliest (design p) p.cycles at.core m c → ⊥
  pub more : IsFinal (design p) p.cycles at.core → ⊥
  pub memory : at.short ≡ false

-- the core is final, and memory did not run out
pub record IsHubDone (p : Plan) (at : Turned ModuleState) : Type 0 where
  pub final : IsFinal (design p) p.cycles at.core
  pub memory : at.short ≡ false

-- memory ran out
abbrev pub WasShort : Plan → Turned ModuleState → Type 0
WasShort p at = at.short ≡ true

-- memory did not run out
abbrev pub HadMemory : Plan → Turned ModuleState → Type 0
HadMemory p at = at.short ≡ false

-- after this history the core is final, or memory ran out
abbrev pub IsOverAt : List HubEntry → Type 0
IsOverAt seen = HoldsAfter seen IsHubDone ⊎ HoldsAfter seen WasShort

-- ---- desks

-- the task is all that the core after this history lends of module m
abbrev pub IsDesk : ℕ → List HubEntry → Task → Type 0
IsDesk m seen task = HoldsAfter seen (λ p at. IsTaskOf p at.core m task)

-- the burst is one on the task, wherever the task's run stands
abbrev pub IsBurstOn : Task → Burst → Type 0
IsBurstOn task burst = (p : Plan) (m : ℕ) (o : Own) → StandsAt p m o task.run → IsBurst p m o task burst

-- the burst is one on the desk of module m, as it is lent after this history
abbrev pub IsDeskBurst : ℕ → List HubEntry → Burst → Type 0
IsDeskBurst m seen burst = (task : Task) × IsDesk m seen task × IsBurstOn task burst

-- ---- answers

-- memory ran out in an earlier turn, or in this one
abbrev pub FoundShort : ℕ → PassView HubEntry → PassView HubEntry → Type 0
FoundShort n v w =
    HoldsAfter w.seen WasShort × (HasLooked v w ⊎ ((before : List HubEntry) × HasAdded (Short n) before v w × HoldsAfter before HadMemory))

abbrev pub DeskIs : ℕ → PassView HubEntry → PassView HubEntry → Desk → Type 0
DeskIs m v w (desk.Run task) = (before : List HubEntry) × HasAdded (Lent (m + 1) m) before v w × IsDesk m before task
DeskIs m v w (desk.Held n) = HasLooked v w × (n ≡ length w.seen) × HoldsAfter w.seen (IsHeld m)
DeskIs m v w desk.Over = HasLooked v w × HoldsAfter w.seen IsHubDone
DeskIs m v w desk.Short = FoundShort (m + 1) v w

-- after this history module m's desk is out exactly where it was lent; its task is what the core lends, and its run stands at some
-- rest
abbrev pub OutAt : ℕ → List HubEntry → Desk → Type 0
OutAt m seen (desk.Run task) = HasDesk m seen × IsDesk m seen task × StandsSomewhere task.run
OutAt m seen (desk.Held n) = HasNoDesk m seen
OutAt m seen desk.Over = HasNoDesk m seen
OutAt m seen desk.Short = HasNoDesk m seen

-- after what a pass has seen, module m's desk is out exactly where it was lent
abbrev pub OutIs : ℕ → PassView HubEntry → Desk → Type 0
OutIs m w answer = OutAt m w.seen answer

abbrev pub PerfIs : PassView HubEntry → PassView HubEntry → PerfAnswer → Type 0
PerfIs v w (perf.Did n) = (before : List HubEntry) × HasAdded (Timed 0 n) before v w
PerfIs v w (perf.Idle n) = HasLooked v w × (n ≡ length w.seen) × HoldsAfter w.seen IsHubIdle
PerfIs v w perf.Over = HasLooked v w × HoldsAfter w.seen IsHubDone
PerfIs v w perf.Short = FoundShort 0 v w

-- a Run of module m is permitted, and its desk is not out
pub record IsLendable (m : ℕ) (p : Plan) (at : Turned ModuleState) : Type 0 where
  pub may_run : MayRun (design p) at.core m
  pub home : lent_at at m ≡ None

-- a set of modules was told who is ready after this history: as far as it has room, each module whose desk can be lent was added
pub record TellsReady (seen : List HubEntry) (before after : List ℕ) : Type 0 where
  pub ready : (m : ℕ) → m < capacity before → HoldsAfter seen (IsLendable m) → HoldsAfter seen HadMemory → Has after m
  pub only : (m : ℕ) → Has after m → Has before m ⊎ HoldsAfter seen (IsLendable m)
  pub kept : (m : ℕ) → Has before m → Has after m
  pub room : length after ≡ length before

-- the turn added n Runs of module m, or noted that memory ran out
abbrev pub ReturnIs : ℕ → ℕ → PassView HubEntry → PassView HubEntry → Bool → Type 0
ReturnIs m n v w true = (before : List HubEntry) × HasAdded (Ran (m + 1) m n) before v w
ReturnIs m n v w false = (before : List HubEntry) × HasAdded (Short (m + 1)) before v w
