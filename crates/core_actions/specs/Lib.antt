pub mod Causes
pub mod Missing
pub mod Acted
pub use Causes.{IsPermitted, acting_module, cause_of, cycle_causes, first_lacking, first_passing, first_place, first_some, has_clock}
pub use Causes.{is_busy, is_earlier, is_held, is_undecided, is_unverified, lacks_reply, later, open_causes, waiting_cause}
pub use Missing.{is_open_query, is_query_access}
pub use Acted.{HasActed, HasRun, IsRun, gives, guard_of}
pub use declared.{actions.Action.Action, actions.Cause.Cause}
pub use Rattle.sim_core.specs.{CoreView, HasTurned, IsEarliestOther, theory_of}
pub use Rattle.run_ahead.specs.{first_missing, reply_now, told_by, value_now}
pub use Rattle.engine_view.specs.{AreWhole, IsDifferent, IsSound, Timing, are_among, as_known, core_of, emitted_of, first_of, flag_now}
pub use Rattle.engine_view.specs.{flags_by, no_step, place_of, queries_in, seen, step_of, ticks_of}
unfoldable pub use Rattle.engine_view.specs.{queries_before}
pub use Rattle.timing_bridge.specs.{design, lockstep_run}
pub use Rattle.outcome_guard.specs.{Guard}
pub use Rattle.time_engine.specs.{HasPlaces, IsAccess, is_waiting}
unfoldable pub use Rattle.time_engine.specs.{determined, first_waiting, when_possible}
pub use Rattle.event_graph.specs.{Lane, in_lane, lane_at, no_lane}
pub use Rattle.fifo_table.specs.{Channel}
pub use Rattle.query_log.specs.{Query, log_at}
pub use Rattle.event_timing.specs.{Acts, Design, FlagsFit, IsAgreed, IsDesign, IsDetermined, Known, MayAnswer, MayAssign, MayEarliest}
pub use Rattle.event_timing.specs.{MayRun, all_below, all_decided, both, bound, core_accesses, core_tally, core_values, first_accesses}
pub use Rattle.event_timing.specs.{has_query, has_replies, is_decided, known_of, pops_now, view}
unfoldable pub use Rattle.event_timing.specs.{candidate, decides, is_determined, is_open, is_open_before, is_quiet, may_answer, may_assign}
unfoldable pub use Rattle.event_timing.specs.{may_earliest, may_run, passes_no_module}
pub use Rattle.flow_design.specs.{FitsEngine, ModuleState}
pub use Rattle.flow_word.specs.{Access, Kind, Place, Side, Step, is_blocking, is_taking, same_side, side_of}
