pub mod Kept
pub mod Ledgers
pub mod Places
pub mod Hubs
pub mod Steps
pub mod Closings
pub use Kept.{KeepsTurns, Matches, led_to, lent_count, spare}
pub use Ledgers.{entries_in, entries_under}
pub use Places.{HasAdded, HasDesk, HasDeskOut, HasLooked, HasMadeAll, HasModule, HasModules, HasNoDesk, HasNoDeskOut, HoldsAfter}
pub use Places.{IsFirstPass, IsLater, IsLegal, IsPlace}
pub use Hubs.{DeskIs, FoundShort, HadMemory, IsBurstOn, IsDesk, IsDeskBurst, IsHeld, IsHubDone, IsHubIdle, IsLendable, IsOfHub, IsOverAt}
pub use Hubs.{IsPerfOf, OutAt, OutIs, PerfIs, ReturnIs, TellsReady, WasShort, hub_id, module_hub, module_of, module_view, perf_hub}
pub use Hubs.{perf_view}
pub use Steps.{Adds, BackIs, ComesBack, ComesHome, IsTurnEnd, LendingIs, MayAdd, ShortIs, TimingIs}
pub use Closings.{AllHome, AreFrom, AreNew, AreOfHub, ClosedIs, EndsAt, HasEachModule, IsWholeHistory, IsWholeRun}
pub use declared.{answer.Desk.Desk, answer.PerfAnswer.PerfAnswer, hub.Hub.Hub, kept.BoxedLedger.BoxedLedger, ledger.HubLedger.HubLedger}
pub use declared.{pass.ModulePass.ModulePass, pass.PerfPass.PerfPass}
pub use Rattle.turn_lock.specs.{AllJoined, AreAllMade, BeginsTurn, Continues, EndsTurn, Owns, PassView, ShowsAll, ShowsEach, ShowsPass}
pub use Rattle.turn_lock.specs.{bears, entries_of, lock_id}
pub use Rattle.sim_core.specs.{AreOwn, CoreView, IsBurstOf, IsReady, IsRunOf, IsTaskFor, IsTaskOf, rest_after, rest_of, steps_committed}
pub use Rattle.sim_core.specs.{theory_of}
pub use Rattle.module_sets.specs.{capacity}
unfoldable pub use Rattle.module_sets.specs.{Has}
pub use Rattle.run_ahead.specs.{Burst, IsBurst, StandsSomewhere, Task}
pub use Rattle.timing_bridge.specs.{AreOfOthers, HubEntry, HubTurn, IsTurnOf, NoTiming, Stands, TurnsOf, after_lent, after_ran, after_short}
pub use Rattle.timing_bridge.specs.{after_timed, bearer, design, earliest_of, history_of, is_lent_to, lent_at, lockstep_run, not_to}
pub use Rattle.timing_bridge.specs.{opening_turned, standing_of, taker, then_on, timings, turned_by, turns_on}
unfoldable pub use Rattle.timing_bridge.specs.{next_timing}
pub use Rattle.module_interp.specs.{ModuleRun, StandsAt, waits}
pub use Rattle.lockstep_defs.specs.{Own}
pub use Rattle.event_timing.specs.{ActsAll, AllVerified, Design, IsAgreed, IsFinal, IsInside, MayEarliest, MayRun, opening_core, runs}
pub use Rattle.flow_design.specs.{FitsEngine, ModuleState, Plan}
