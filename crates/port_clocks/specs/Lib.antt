pub mod Leads
pub mod Clocks
pub mod Reading
pub mod Walks
pub mod Peaks
pub use Leads.{AreClocks, before, is_ahead}
unfoldable pub use Leads.{ahead_clocks, most_ahead}
pub use Clocks.{ArePortClocks}
pub use Reading.{AreCycles, cycle_in}
pub use Walks.{IsFifoWalk, PassesAt, WalkStandsAt, never, next_of}
unfoldable pub use Peaks.{peak}
pub use declared.{walk.FifoWalk.FifoWalk, walk.PortWalk.PortWalk}
pub use Rattle.engine_report.specs.{IsFinished}
pub use Rattle.timelines.specs.{last_clock, moved_before}
unfoldable pub use Rattle.timelines.specs.{fill}
pub use Rattle.engine_view.specs.{IsTakenAt, core_of}
pub use Rattle.time_engine.specs.{HasPlaces}
pub use Rattle.event_graph.specs.{Lane, cycle_of, lane_at}
pub use Rattle.fifo_table.specs.{Channel, channel_at, first_module, places_of}
pub use Rattle.timing_bridge.specs.{design, lockstep_run}
pub use Rattle.event_timing.specs.{Agrees, IsDesign, IsHistory, Trace, bare_replies, core_accesses, core_reply, core_tally, view}
unfoldable pub use Rattle.event_timing.specs.{tally}
pub use Rattle.lockstep_defs.specs.{HistoryStep, history, state}
unfoldable pub use Rattle.lockstep_defs.specs.{moved, owner, steps_in}
pub use Rattle.flow_design.specs.{Advance, FitsEngine, ModuleState, Plan, is_fifo, kind_at}
pub use Rattle.flow_word.specs.{Place, Port, Side}
