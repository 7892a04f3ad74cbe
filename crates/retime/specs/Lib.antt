pub mod Touched
pub mod Rounds
pub mod Cuts
pub mod Edits
pub use Touched.{ArePlacesInOrder, IsEditIn, IsFirstTouched, IsNeverTouched, clock_at, clock_by, held_elements, is_cycle_before}
pub use Touched.{timed_before}
pub use Rounds.{HasEnded, HasEndedForEach, HasGone, LeadsAll, cycles_in, only_steps, steps_in_lanes}
pub use Cuts.{AreAssumed, AreNumbered, HasRetimed, IsCutBack, KeepsRoomEdited, only_lanes, timed_queries}
pub use Edits.{AreVerified, IsEditFrom, IsEditOf, IsFinalOf, IsOtherInHistory, OutcomesGrow, RecordGrows}
pub use Rattle.engine_view.specs.{AreIdle, AreTaken, AreWhole, CursorView, Engine, HasTimed, IsCut, IsDifferent, IsIdle, IsKept, IsKind}
pub use Rattle.engine_view.specs.{IsNext, IsNow, IsPassed, IsRoomy, IsSomeCore, IsSound, KeepsRoom, Leads, OfEach, Timing, are_among}
pub use Rattle.engine_view.specs.{core_of, emitted_of, first_of, flags_by, has_all, held_in, kinds_in, lanes_after, no_step, possible_by}
pub use Rattle.engine_view.specs.{queries_in, room_of, seen, step_of, ticks_of, turns_left}
unfoldable pub use Rattle.engine_view.specs.{left, queries_before}
pub use Rattle.query_resolve.specs.{late_outcome}
pub use Rattle.outcome_guard.specs.{Guard, IsPrefix}
pub use Rattle.time_engine.specs.{HasPlaces}
pub use Rattle.event_graph.specs.{IsSoundLane, Lane, cycle_bound, cycle_of, lane_at, lane_with_cycle, no_lane, timed_below}
pub use Rattle.fifo_table.specs.{Channel, Enabler, HasSide, IsFifo, TableChannel, channel_at, deepened_channels, depth_of, enabler_by}
pub use Rattle.fifo_table.specs.{enabler_of, event_at, places_of}
pub use Rattle.query_log.specs.{IsSoundLog, Log, Query, log_at, no_log, outcome_of}
pub use Rattle.event_timing.specs.{Action, Acts, ActsAll, AreTimings, Design, IsAgreed, IsDesign, IsFinal, IsHistory, IsSame, IsStepAt}
pub use Rattle.event_timing.specs.{IsUntouchedByCycles, Trace, after_answer, after_assign, after_edit, bare_replies, by_cycles}
pub use Rattle.event_timing.specs.{core_accesses, core_tally, edited, has_query, held_by_cycles, is_possible, new_flags, possible_all, view}
unfoldable pub use Rattle.event_timing.specs.{candidate, kept}
pub use Rattle.flow_design.specs.{Edit, ModuleState}
pub use Rattle.flow_word.specs.{Access, Kind, Place, Side, Step, is_blocking, side_of}
