pub mod Replies
pub mod Mails
pub mod Working
pub use Replies.{first_missing, or_done, put_before, put_first, replies_from, reply_now, reply_told, takes_by, takes_value, told_by}
pub use Replies.{value_now}
pub use Mails.{IsAfterStep, IsBurst, IsBurstFrom, IsLeft, IsPast, IsStillGoing, IsWaiting, RunsOn, next_value, none_taken, one_more}
pub use Mails.{replies_in, taken_after, task_left, values_on}
pub use Working.{IsFed, IsGoingOn, IsSoFar, StandsSomewhere, burst_of, task_of}
pub use declared.{mail.Burst.Burst, mail.Mail.Mail, mail.Task.Task}
pub use Rattle.engine_view.specs.{queries_in, values_at}
pub use Rattle.module_interp.specs.{IsEmitted, IsSoundMark, ModuleRun, StandsAt, accesses_at, all_fit, fits_kind, is_step, mark_at}
pub use Rattle.module_interp.specs.{next_rest, place_in, replies_told, waits}
pub use Rattle.lockstep_defs.specs.{Own}
pub use Rattle.time_engine.specs.{IsAccess}
pub use Rattle.fifo_table.specs.{Channel}
pub use Rattle.flow_design.specs.{Advance, Plan, Reply}
pub use Rattle.flow_word.specs.{Access, Kind, is_blocking}
