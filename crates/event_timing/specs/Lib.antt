pub mod Machines
pub mod Histories
pub mod Steps
pub mod Views
pub mod Enablers
pub mod Core
pub mod Actions
pub mod Permitted
pub mod Growth
pub mod Agreement
pub mod Edits
pub mod Work
pub use Machines.{Access, Design, Each, IsDesign, Reply, after_skip, is_some_access, ready, takers, takes_at, takes_in, took, values_in}
pub use Histories.{IsHistory, Trace, can_all, can_do, is_possible, reply_to}
unfoldable pub use Histories.{can_move, replies}
unfoldable pub use Steps.{done, rest, since, steps}
pub use Views.{Agrees, Begins, View, first_accesses, from, own_accesses, own_state}
unfoldable pub use Views.{own, place, pushed_in, tally}
pub use Enablers.{IsStuck, Known, all_decided, answer, both, bound, flags_at, from_step, is_decided, known_of, timed_place, to_clock}
pub use Enablers.{unblocked_clock}
unfoldable pub use Enablers.{candidate, known}
pub use Core.{all_below, bare_replies, core_accesses, core_pushed, core_reply, core_tally, core_values, has_query, no_outcomes}
pub use Core.{opening_core, pops_now, replies_of, values_there, view}
pub use Actions.{Action, Acts, ActsAll, ActsRecorded, AreTimings, IsDetermined, IsFinal, IsNoRunOf, IsOpen, IsQuiet, IsRecorded, IsSame}
pub use Actions.{MayAnswer, MayAssign, MayEarliest, MayRun, after_answer, after_assign, after_run, assigns, emit_over, emit_step, new_flags}
pub use Actions.{newest, put, put_at, runs, state_next}
pub use Permitted.{IsInside, has_replies, is_before}
unfoldable pub use Permitted.{decides, is_determined, is_final, is_open, is_open_before, is_quiet, may_answer, may_assign, may_earliest}
unfoldable pub use Permitted.{may_run, passes_no_module}
pub use Growth.{Grows, GrowsBeside, IsSettled, RepliesAlike}
pub use Agreement.{AllVerified, AreOwnMarks, FlagsFit, HappensBefore, IsAgreed, IsAtRest, IsBounded, IsStepAt, IsTimed, IsUndetermined}
pub use Agreement.{elements_timed, pops_timed, possible_all, stop}
pub use Edits.{IsUntouched, IsUntouchedByCycles, after_edit, by_cycles, edited, held_by_cycles, kept_cycle}
unfoldable pub use Edits.{kept}
pub use Work.{work}
unfoldable pub use Work.{first_one, over_one, sum_to, work_of}
pub use Rattle.flow_word.specs.{Side, other_side, same_side}
