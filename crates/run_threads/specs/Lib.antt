pub mod Driving
pub mod Slots
pub mod Leading
pub mod Threadless
pub use Driving.{EndIs, IsBack, IsHere, WentIs}
pub use Slots.{AreHere, AreSlots, IsRoomFor, KeepsPass, SlotIs, passes_in}
pub use Leading.{HasMoreTurns}
pub use Threadless.{IsNamed}
pub use declared.{drive.Driver.Driver}
pub use Rattle.sim_hub.specs.{AllHome, AreNew, AreOfHub, ClosedIs, HasEachModule, HasNoDeskOut, HoldsAfter, Hub, IsBurstOn, IsDeskBurst}
pub use Rattle.sim_hub.specs.{IsHubDone, IsOfHub, IsOverAt, IsPerfOf, IsWholeRun, ModulePass, OutIs, PerfPass, WasShort, entries_under}
pub use Rattle.sim_hub.specs.{hub_id, module_of, module_view, perf_view}
pub use Rattle.turn_lock.specs.{PassView}
pub use Rattle.sim_core.specs.{AreOwn, theory_of}
pub use Rattle.run_ahead.specs.{StandsSomewhere}
pub use Rattle.timing_bridge.specs.{HubEntry, HubTurn, bearer, design, history_of}
pub use Rattle.event_timing.specs.{opening_core}
pub use Rattle.flow_design.specs.{Plan}
