pub mod Paths
pub mod Waits
pub mod Late
pub use Paths.{IsAfter, blocks_at, can_wait_at}
pub use Waits.{ComesAfter, ComesLater, IsAlong, IsTimedAt, IsTried, OneWaits, WaitsFor, cycle_at, depths_with, free_with, moves_after}
pub use Waits.{nth_place}
pub use Late.{IsLateBelow}
pub use Rattle.depth_order.specs.{AreDeeper, AreDepths, AsksNothing, IsDoneBy, moves_at, with_depths}
unfoldable pub use Rattle.depth_order.specs.{moves_made}
pub use Rattle.engine_report.specs.{HoldsEnd, IsEndMark, IsFinished, end_at, gap_of_end}
pub use Rattle.timelines.specs.{arrives}
pub use Rattle.engine_view.specs.{Engine, IsKind, IsTakenAt, core_of, emitted_of, held_in, no_step, seen, step_of, waited}
pub use Rattle.time_engine.specs.{HasAccesses, IsAccess}
pub use Rattle.event_graph.specs.{HasStep, Lane, in_lane, lane_at, no_lane}
pub use Rattle.fifo_table.specs.{Channel, IsFifo, TableChannel, channel_at, depth_of, free_of, lag_of, places_of}
pub use Rattle.timing_bridge.specs.{design, lockstep_run, start_in}
pub use Rattle.event_timing.specs.{Agrees, Design, Each, IsAgreed, IsDesign, IsHistory, Trace, bare_replies, can_all, can_do, core_accesses}
pub use Rattle.event_timing.specs.{core_reply, core_tally, is_possible, view}
unfoldable pub use Rattle.event_timing.specs.{can_move, done, own}
pub use Rattle.lockstep_defs.specs.{is_query, state_at}
unfoldable pub use Rattle.lockstep_defs.specs.{verdict}
pub use Rattle.flow_design.specs.{Advance, AreEntriesSound, ChannelKind, Edit, FitsEngine, ModuleState, Plan, Verdict, is_fifo, kind_at}
pub use Rattle.flow_design.specs.{with_depth}
pub use Rattle.flow_word.specs.{Access, Place, Side, Step, is_blocking, other_side, same_side, side_of}
