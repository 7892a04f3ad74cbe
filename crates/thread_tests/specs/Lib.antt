pub mod Resting
pub use Resting.{AreResting}
pub use Rattle.sim_hub.specs.{AllHome, AreNew, AreOfHub, HasEachModule, HasNoDeskOut, IsDeskBurst, IsOfHub, ModulePass, OutIs, PerfPass}
pub use Rattle.sim_hub.specs.{hub_id, module_hub, module_of, module_view, perf_hub, perf_view}
pub use Rattle.sim_core.specs.{theory_of}
pub use Rattle.timing_bridge.specs.{design}
pub use Rattle.event_timing.specs.{opening_core}
pub use Rattle.flow_design.specs.{Plan}
