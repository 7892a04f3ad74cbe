pub mod Designs
pub mod CoreReports
pub mod OwnRuns
pub mod Outcomes
pub mod Turned
pub mod Turns
pub mod Rounds
pub mod Replays
pub mod Histories
pub mod Entries
pub mod Apart
pub use Designs.{design, due_accesses, is_source, lag_in, lockstep_run, move_in, seen_request, start_in, told, told_all}
pub use CoreReports.{AreInOrder, AreSorted, comes_before, core_held, core_held_by, core_places, core_report, core_state, core_states}
pub use CoreReports.{core_step, core_steps, determines_some, is_from, is_stuck, last_stop, modules_of, pusher, sink_values, steps_at}
unfoldable pub use CoreReports.{core_verdict}
pub use OwnRuns.{AreOwnSteps, AreTold, HasComeTo, IsOwnStep, clocks_of_steps, core_replies}
pub use Outcomes.{IsNextInHistory, first_requests, outcome_when, outcomes_by}
pub use Turned.{after_lent, after_ran, after_short, after_timed, is_lent_to, lent_at, not_to, opening_turned}
pub use Turns.{AreOfOthers, IsEarliestTo, IsTimedTo, IsTurnOf, NoTiming, TurnsOf, taker}
pub use Rounds.{cycle_found, earliest_of, first_from, first_round, runs_of, then_on, timings}
unfoldable pub use Rounds.{after_timing, first_earliest, may_time, next_timing}
pub use Replays.{turn_on, turns_on}
pub use Histories.{IsHistoryOf, IsTurn, standing_of, turned_by}
pub use Entries.{Stands, bearer, history_of}
pub use Apart.{AreApart}
pub use declared.{entry.HubEntry.HubEntry, turn.HubTurn.HubTurn}
pub use Rattle.event_timing.specs.{Access, Action, Acts, ActsAll, AllVerified, AreOwnMarks, AreTimings, Design, Each, FlagsFit, IsAgreed}
pub use Rattle.event_timing.specs.{IsAtRest, IsBounded, IsDesign, IsDetermined, IsFinal, IsHistory, IsInside, IsNoRunOf, IsOpen, IsStepAt}
pub use Rattle.event_timing.specs.{IsUndetermined, IsUntouchedByCycles, Known, MayAnswer, MayAssign, MayEarliest, MayRun, Trace}
pub use Rattle.event_timing.specs.{after_answer, after_assign, after_edit, after_run, after_skip, all_below, all_decided, answer}
pub use Rattle.event_timing.specs.{bare_replies, bound, can_all, core_accesses, core_pushed, core_reply, core_tally, core_values, edited}
pub use Rattle.event_timing.specs.{emit_over, first_accesses, from, from_step, has_query, is_before, is_some_access, known_of, new_flags}
pub use Rattle.event_timing.specs.{opening_core, possible_all, ready, replies_of, reply_to, runs, stop, takers, takes_in, timed_place}
pub use Rattle.event_timing.specs.{to_clock, unblocked_clock, values_in, values_there, view}
unfoldable pub use Rattle.event_timing.specs.{candidate, decides, done, is_determined, known, may_answer, may_assign, may_earliest, may_run}
unfoldable pub use Rattle.event_timing.specs.{own, place, pushed_in, replies, steps, tally}
pub use Rattle.lockstep_defs.specs.{Exchange, HistoryStep, IsBefore, IsDueIn, NoneBefore, Own, OwnStep, StandsAtPort, all_in, all_ready}
pub use Rattle.lockstep_defs.specs.{answered, answers_in, can_take, committed, contents_of, events_of, fits, followed, front, has_port}
pub use Rattle.lockstep_defs.specs.{held, held_at, held_by, held_modules, history, is_some_request, is_taker, is_yes, module_at}
pub use Rattle.lockstep_defs.specs.{module_step, moved_value, next_state, no_module, nobody, numbered, outcomes, outputs_in, own_after}
pub use Rattle.lockstep_defs.specs.{paired, popped_value, pushed_value, queries, reply_by, report_at, request_for, requests_of, rests}
pub use Rattle.lockstep_defs.specs.{settled_verdict, sinks, some_moves, stalls, state, state_at, step_with, steps_of, value_in, values}
unfoldable pub use Rattle.lockstep_defs.specs.{decided, entered, finished, is_over, is_settled, measure, moment, move, moved, moved_by}
unfoldable pub use Rattle.lockstep_defs.specs.{moves, opened, opening, own_next, own_run, owner, quiet, quiet_below, reply, report}
unfoldable pub use Rattle.lockstep_defs.specs.{requests, steps_in, ticked, verdict}
pub use Rattle.flow_design.specs.{AreEntriesSound, Block, ChannelKind, ClockState, Due, Edit, EditFits, Element, FitsEngine, Held}
pub use Rattle.flow_design.specs.{IsChannelSound, ModuleState, Next, Plan, Reply, Report, Request, Verdict, block_of, clock_of, delay_at}
pub use Rattle.flow_design.specs.{is_fifo, is_port, is_sink, kind_at, live_count, no_block, no_channel, same_port, taken_port, with_depth}
unfoldable pub use Rattle.flow_design.specs.{due}
pub use Rattle.flow_word.specs.{Kind, Side, is_blocking, is_taking, other_side, same_side, side_of}
