pub mod Ticks
pub use Ticks.{HasTicked, others_of}
pub use Rattle.core_actions.specs.{acting_module}
pub use Rattle.sim_core.specs.{AreOwn, CoreView, IsEdited, kept_below, theory_of}
pub use Rattle.cycle_changes.specs.{moved_in, others_in}
pub use Rattle.retime.specs.{IsEditFrom, cycles_in}
pub use Rattle.timing_bridge.specs.{design}
pub use Rattle.outcome_guard.specs.{Guard}
pub use Rattle.event_graph.specs.{Lane, lane_at, no_lane}
pub use Rattle.fifo_table.specs.{channel_at, depth_of}
pub use Rattle.event_timing.specs.{IsFinal}
pub use Rattle.flow_design.specs.{Edit, EditFits, Plan}
