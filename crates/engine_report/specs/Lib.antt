pub mod Reading
pub mod Standings
pub mod Read
pub mod Finished
pub mod Keys
pub mod Walking
pub mod Walks
pub use Reading.{HasPassed, HasPassedSteps, HasWaited, StandsBetween, clock_after, cycle_before, doing_in, doing_of, known_until, lane_step}
pub use Reading.{must_wait}
pub use Standings.{end_at, gap_of_end, joined, latest_stop, standing_after, standing_at, together, verdict_by, verdict_for}
pub use Read.{AreEvents, all_held, event_line, events_at, held_at_open_step, held_by_access, is_step_before, numbered_places, numbered_step}
pub use Read.{outputs_of, owners, timed_outcomes, timed_places, timed_values}
pub use Finished.{HoldsEnd, IsEndMark, IsFinished, emitted_state, end_gap, report_with}
pub use Keys.{AreSortedKeys, HasKey, IsTimedKey, key_of, keys_of, place_at, step_place}
pub use Walking.{FoundIn, HasGiven, IsWalk, first_cycles, next_cycle, past_every_cycle, to_give}
pub use Walks.{AreLate, IsEarly, IsWalked}
pub use declared.{events.TimedStep.TimedStep, verdict.Standing.Standing, walk.StepWalk.StepWalk}
pub use Rattle.timelines.specs.{AreSpans, AreSpansBelow, Comes, Does, Doing, Span, arrives, core_doing, doing_at, known_in, reached}
pub use Rattle.timelines.specs.{waits_at}
unfoldable pub use Rattle.timelines.specs.{doing}
pub use Rattle.engine_view.specs.{AreTaken, Engine, IsKind, IsSound, IsTakenAt, are_among, as_known, core_of, emitted_of, flags_by, held_in}
pub use Rattle.engine_view.specs.{no_step, possible_by, queries_in, seen, step_of, waited}
unfoldable pub use Rattle.engine_view.specs.{queries_before}
pub use Rattle.time_engine.specs.{HasAccesses, HasPlaces, IsAccess, Known, arrival, is_waiting, known_clock, open_step}
unfoldable pub use Rattle.time_engine.specs.{determined, when_possible}
pub use Rattle.event_graph.specs.{HasStep, IsSoundLane, Lane, cycle_bound, cycle_of, gap_bound, in_lane, lane_at, last_cycle, no_lane}
pub use Rattle.fifo_table.specs.{Channel, Pushed, TableChannel, channel_at, unused, values_of}
pub use Rattle.query_log.specs.{Log, log_at, no_log}
pub use Rattle.timing_bridge.specs.{AreInOrder, AreSorted, clocks_of_steps, core_held, core_held_by, core_report, core_state, core_step}
pub use Rattle.timing_bridge.specs.{core_steps, design, is_from, is_stuck, lockstep_run, modules_of, pusher, sink_values, steps_at}
pub use Rattle.timing_bridge.specs.{told_all}
unfoldable pub use Rattle.timing_bridge.specs.{core_verdict}
pub use Rattle.event_timing.specs.{IsAgreed, IsDesign, IsFinal, answer, bare_replies, core_accesses, core_pushed, core_reply, core_tally}
pub use Rattle.event_timing.specs.{core_values, from, known_of, pops_now, ready, replies_of, stop, view}
unfoldable pub use Rattle.event_timing.specs.{candidate, own, pushed_in}
pub use Rattle.lockstep_defs.specs.{Exchange, HistoryStep, IsBefore, events_of, history, is_yes, outcomes, paired, queries, reply_by}
pub use Rattle.lockstep_defs.specs.{requests_of, sinks, steps_of}
unfoldable pub use Rattle.lockstep_defs.specs.{quiet, report, verdict}
pub use Rattle.flow_design.specs.{Advance, ChannelKind, EventLine, FitsEngine, ModuleState, Plan, Reply, Report, Request, Verdict, clock_of}
pub use Rattle.flow_design.specs.{is_fifo, is_sink, kind_at}
pub use Rattle.flow_word.specs.{Access, Kind, Place, Side, Step, is_blocking, same_side, side_of}
