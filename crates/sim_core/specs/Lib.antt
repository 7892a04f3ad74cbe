pub mod Views
pub mod Opening
pub mod Marks
pub mod Runs
pub mod Found
pub mod Candidates
pub mod Turns
pub mod Drives
pub mod Timings
pub mod Edits
pub mod Records
pub mod Tasks
pub mod Readers
pub mod Lent
pub mod Unread
pub mod Taken
pub mod Returned
pub mod AccessLog
pub mod Costs
pub mod Asking
pub mod OwnMarks
pub mod Waking
pub mod Stretches
pub use Views.{CoreView, theory_of}
pub use Opening.{AreFirstRuns, AreLeft, AreOlderRuns, AreOwnPorts, kind_by, kind_in, kinds_of, port_where, ports_at, ports_to}
pub use Opening.{source_values}
pub use Marks.{IsRestAfter}
unfoldable pub use Marks.{exchanges_before}
pub use Runs.{AreBodyLengths, AreUnreadIn, ForEachCore, ForSomeCore, HasBodiesWithin, IsAnswered, IsCore, IsEndOf, IsLongestBody, IsOut}
pub use Runs.{IsRunOf, IsStoredCore, IsWired, lent_of, rest_after}
pub use Found.{replies_now}
pub use Candidates.{AreCandidates, AreListed, IsCandidate, IsListed}
pub use Turns.{HasAnsweredLeast, HasTurned, IsEarliestOther, IsFirstEarliest, IsStill}
pub use Drives.{AreOwn, Goes, GoesOn, GoesOnIf, HasDriven, HasVisited, IsDiffering, IsGoingRound, StopsAtRun, VisitLeads, given, has_acted}
pub use Drives.{visits_left}
pub use Timings.{AreUnrunnable, AreUntimable, HasMore, IsNextFrom, IsReady, IsTimingRound, IsUntimable, TimesSome}
pub use Edits.{IsAsBefore, IsChanged, IsEdited, IsRetimed, IsTrueGuard, StayBelow}
pub use Records.{HasOtherAnswer, IsEditedOn, IsSoundCore, recorded_in, verified_in}
pub use Tasks.{IsBurstOf, IsMailFor, IsTaskFor, IsTaskLeft, IsTaskOf, outcomes_at, requested_outcomes, rest_of, steps_committed}
pub use Tasks.{values_to_come}
pub use Readers.{AreNoted, AreReaders, AreUsers, IsNoting, IsSearching}
pub use Lent.{IsMade, IsReadingOutcomes, IsReadingValues, mailed}
pub use Unread.{AreUnread, IsUnread, none_unread, unread_at}
pub use Taken.{AreAdded, ArePortsInOrder, AreTakenByMarks, rank_of, side_rank, taken_at, taken_by_marks}
pub use Returned.{AreReturned, CanEmitNext, CanGoOn, HasDoneRun, HasEmittedNext, HasPlaceForEach, HasPlacesForMarks, HasReturned}
pub use Returned.{HasRoomForMarks, IsFewMark, IsNextMark, core_in, next_mark}
pub use AccessLog.{access_request, exchange_of, logged, logged_at, logged_in, logged_replies, step_doing}
unfoldable pub use AccessLog.{log_of}
pub use Costs.{HasSetFew, kept_below}
pub use Asking.{AreAcross, AreAcrossTo, AreAsking, AreBeside, AreBesideTo, Lacks, SetHasRoom}
pub use OwnMarks.{TellsOwnRun, held_marks}
pub use Waking.{AreDue, AreWaking, IsFull, IsOutside, IsSpread, IsWoken}
pub use Stretches.{AreTimingsOf, HasDoneRuns, HasTimedOnce, IsHeldAlike, IsHeldOf, IsMember, IsMemberOf, IsMemberOut, IsOutOf, IsRunOut}
pub use Stretches.{StretchLeads, TimesOn, answers_among, is_short, view_in}
pub use declared.{access_log.LoggedAccess.LoggedAccess, due.DueModules.DueModules, stretch.Stretch.Stretch, timing.Batch.Batch}
pub use declared.{visit.Visit.Visit, wiring.Wiring.Wiring}
pub use Rattle.module_sets.specs.{HasMask, IsAdded, IsRemoved, Mask, capacity}
unfoldable pub use Rattle.module_sets.specs.{Has}
pub use Rattle.run_ahead.specs.{Burst, IsAfterStep, IsBurst, IsBurstFrom, IsLeft, IsPast, IsStillGoing, IsWaiting, Mail, RunsOn, Task}
pub use Rattle.run_ahead.specs.{burst_of, first_missing, next_value, none_taken, one_more, put_first, replies_from, replies_in, reply_now}
pub use Rattle.run_ahead.specs.{reply_told, taken_after, takes_value, task_left, told_by, value_now, values_on}
pub use Rattle.engine_report.specs.{AreSortedKeys, IsEndMark, IsFinished, IsTimedKey, TimedStep, end_at, gap_of_end, report_with}
pub use Rattle.engine_report.specs.{step_place, timed_places}
pub use Rattle.cycle_changes.specs.{HasChanged, IsRightRecord, moved_in}
pub use Rattle.retime.specs.{ArePlacesInOrder, HasEnded, HasRetimed, IsEditFrom, IsEditIn, IsEditOf, IsFinalOf, IsFirstTouched}
pub use Rattle.retime.specs.{IsNeverTouched, IsOtherInHistory, KeepsRoomEdited, LeadsAll, OutcomesGrow, RecordGrows, cycles_in, only_steps}
pub use Rattle.retime.specs.{steps_in_lanes}
pub use Rattle.engine_view.specs.{AreAllPorts, AreKinds, CanEmit, CursorView, Engine, EngineHasModule, HasAnswered, HasEmitted}
pub use Rattle.engine_view.specs.{HasEmittedEnd, HasRoom, HasTimed, HasUnsure, IsDifferent, IsFoundOther, IsIdle, IsKept, IsKind}
pub use Rattle.engine_view.specs.{IsNextStep, IsRoomy, IsSameButRoom, IsSomeCore, IsSound, KeepsRoom, MayTakeIn, Timing, are_among, core_of}
pub use Rattle.engine_view.specs.{emitted_of, first_of, flags_by, flags_of, has_all, held_in, held_parts, is_progress, kinds_in, no_step}
pub use Rattle.engine_view.specs.{opening_held, outcome_by, over_of, possible_by, queries_in, query_bound, replies_by, room_of, seen}
pub use Rattle.engine_view.specs.{step_of, ticks_of, turns_left, values_at, waited, with_emitted, with_over}
unfoldable pub use Rattle.engine_view.specs.{left, left_of, queries_before}
pub use Rattle.timing_bridge.specs.{AreApart, AreInOrder, AreSorted, IsNextInHistory, NoTiming, clocks_of_steps, core_replies, core_report}
pub use Rattle.timing_bridge.specs.{core_step, core_steps, design, earliest_of, first_requests, is_source, lag_in, lockstep_run}
pub use Rattle.timing_bridge.specs.{outcome_when, outcomes_by, seen_request, steps_at, timings, told_all}
unfoldable pub use Rattle.timing_bridge.specs.{after_timing, core_verdict, may_time, next_timing}
pub use Rattle.module_interp.specs.{AreInParts, GoesTo, IsAtEnd, IsAtStep, IsFew, IsPathOf, IsSmall, IsSmallStep, IsSoundMark, MarkHead}
pub use Rattle.module_interp.specs.{ModuleRun, Path, StandsAt, accesses_at, all_fit, done_in, few_step, first_rest, gap_of, inlets_of}
pub use Rattle.module_interp.specs.{is_step, listed_step, mark_at, marks_of, next_rest, place_in, popped_in, replies_to, replies_told}
pub use Rattle.module_interp.specs.{requests_at, to_rest, waits}
unfoldable pub use Rattle.module_interp.specs.{AreParts, marks_before, marks_in, rest_at, rest_clock}
pub use Rattle.lockstep_defs.specs.{Exchange, HistoryStep, Own, OwnStep, StandsAtPort, access_of, contents_of, element_from, event_of}
pub use Rattle.lockstep_defs.specs.{has_port, history, inputs_of, is_query, is_some_request, is_spent, is_yes, module_at, module_step}
pub use Rattle.lockstep_defs.specs.{moved_value, no_module, nobody, outcomes, own_after, paired, queries, reply_by, requests_of, state}
pub use Rattle.lockstep_defs.specs.{state_at, steps_of, value_in, values, width_of}
unfoldable pub use Rattle.lockstep_defs.specs.{is_over, marks, measure, moment, move, moved, moved_by, opened, opening, owner, quiet}
unfoldable pub use Rattle.lockstep_defs.specs.{quiet_below, report, verdict}
pub use Rattle.query_resolve.specs.{IsEarliest, determined_cycle, late_outcome}
pub use Rattle.outcome_guard.specs.{Guard, IsPrefix}
pub use Rattle.time_engine.specs.{HasAccesses, HasPlaces, IsAccess}
unfoldable pub use Rattle.time_engine.specs.{determined}
pub use Rattle.event_graph.specs.{Candidate, IsFewStep, Lane, cycle_bound, cycle_of, gap_bound, in_lane, lane_at, no_lane, timed_below}
pub use Rattle.event_graph.specs.{whole}
pub use Rattle.fifo_table.specs.{Channel, HasSide, IsFifo, IsSoundKind, TableChannel, channel_at, deepened, deepened_channels, depth_of}
pub use Rattle.fifo_table.specs.{lag_of, places_of, unused, values_of}
pub use Rattle.query_log.specs.{Log, Query, log_at, no_log, outcome_of}
pub use Rattle.event_timing.specs.{Action, Acts, ActsAll, AllVerified, AreOwnMarks, Begins, Design, Each, FlagsFit, Grows, GrowsBeside}
pub use Rattle.event_timing.specs.{IsAgreed, IsDesign, IsDetermined, IsFinal, IsHistory, IsInside, IsNoRunOf, IsOpen, IsQuiet, IsRecorded}
pub use Rattle.event_timing.specs.{IsSame, IsSettled, Known, MayAnswer, MayAssign, MayEarliest, MayRun, Trace, after_answer, after_assign}
pub use Rattle.event_timing.specs.{after_edit, after_run, after_skip, all_below, all_decided, assigns, bare_replies, core_accesses}
pub use Rattle.event_timing.specs.{core_pushed, core_reply, core_tally, core_values, edited, emit_over, emit_step, first_accesses, flags_at}
pub use Rattle.event_timing.specs.{has_query, is_some_access, known_of, new_flags, newest, opening_core, pops_now, ready, replies_of, runs}
pub use Rattle.event_timing.specs.{takers, takes_at, takes_in, values_in, values_there, view, work}
unfoldable pub use Rattle.event_timing.specs.{candidate, done, own, steps, sum_to}
pub use Rattle.flow_design.specs.{Advance, AreEntriesSound, Block, ChannelKind, Edit, EditFits, FitsEngine, ModuleState, Plan, Reply}
pub use Rattle.flow_design.specs.{Report, Request, block_at, block_of, clock_of, cut_to, is_fifo, is_port, kind_at, no_block, plan_code}
pub use Rattle.flow_design.specs.{port_at, used_port, uses, with_depth}
pub use Rattle.flow_word.specs.{Access, Kind, Place, Port, Side, Step, is_blocking, is_taking, other_side, same_side, side_of}
pub use Rattle.timelines.specs.{AreSpans}
