pub mod Logs
pub use Logs.{IsSoundLog, Log, RoomedLogs, all_answered, bare_log, log_at, logs_of, no_log, outcome_of, rooms_in_logs, verified_more}
pub use Logs.{with_outcome, with_outcomes, with_verified}
pub use declared.{query.Query.Query, roomy.RoomyLog.RoomyLog}
pub use Rattle.flow_word.specs.{UsesPlace}
