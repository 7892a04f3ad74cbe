pub mod Chains
pub mod Counts
pub mod Marks
pub mod OwnChannels
pub mod OwnRests
pub mod Paths
pub mod Runs
pub use Chains.{GoesTo, replies_to}
unfoldable pub use Chains.{marks_before, rest_at, rest_clock}
pub use Counts.{AreCounts, HasCount, count_at}
pub use Marks.{AreInParts, IsEmitted, few_step, marks_of}
unfoldable pub use Marks.{AreParts, marks_in}
pub use OwnChannels.{IsGathered, IsPlaceOf, place_in}
pub use OwnRests.{accesses_at, all_fit, clocks_to_rest, done_in, first_rest, fits_kind, mark_at, next_rest, replies_told, requests_at}
pub use OwnRests.{to_rest}
pub use Paths.{CanAnswer, CanAsk, CountsOneMore, HasAsked, HasNoted, HasPort, IsAtEnd, IsAtStep, IsInTime, IsPath, IsPathOf, IsStageSoundBy}
pub use Paths.{IsTallyOf, KeepsRest, KnowsPorts, LeadsTo, RequestsNothing, after_move, after_move_by, block_bound, clock_bound}
pub use Paths.{clocks_to_end}
unfoldable pub use Paths.{clocks_to_go}
pub use Runs.{IsFew, IsSmall, IsSmallAccess, IsSmallStep, IsSoundMark, StandsAt, few_accesses, gap_of, inlets_of, is_asked, is_step}
pub use Runs.{listed_step, popped_in, waits}
pub use declared.{marks.MarkHead.MarkHead, path.Path.Path, path.Stage.Stage, run.ModuleRun.ModuleRun, tally.Tally.Tally}
pub use Rattle.module_code.specs.{AreCodesOf, AreNotesOf, BlockCode, CanCommit, IsBlockCodeOf, IsStateSound, counted, gone_on, request_from}
pub use Rattle.module_code.specs.{ticked_to}
pub use Rattle.block_schedule.specs.{HasOperation, HasOperationAt, HasWork, IsDecided, IsNextDue, IsOver, KeepsLimits, StandsIn, at_clock}
pub use Rattle.lockstep_defs.specs.{Exchange, IsLive, IsStateOf, Own, OwnStep, access_of, again_of, clocks_left, end_mark, fits, followed}
pub use Rattle.lockstep_defs.specs.{is_block_over, is_query, is_some_request, is_spent, is_yes, module_at, moved_value, no_module}
pub use Rattle.lockstep_defs.specs.{own_after, own_later, paired, popped_value, pushed_value, queries, request_for, requests_of, rests}
pub use Rattle.lockstep_defs.specs.{skip, started, step_marks, stopped, value_in}
unfoldable pub use Rattle.lockstep_defs.specs.{decided, entered, finished, is_over, marks, move, moved_by, opened, own_next, own_run, owner}
unfoldable pub use Rattle.lockstep_defs.specs.{quiet, requests}
pub use Rattle.flow_design.specs.{Advance, Block, Channel, Control, FitsEngine, IsModuleSound, ModuleState, Next, Op, Plan, Reply, Request}
pub use Rattle.flow_design.specs.{Timed, block_of, due_in, interval, is_port, live_count, longest_block, no_block, port, used_port, uses}
unfoldable pub use Rattle.flow_design.specs.{ages, due, due_at}
pub use Rattle.flow_word.specs.{Access, Kind, Port, Side, Step, is_blocking, same_side, side_of}
