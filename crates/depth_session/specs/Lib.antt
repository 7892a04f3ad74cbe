pub mod Records
pub mod Sessions
pub mod Settled
pub use Records.{RecordGoesOn, RepeatsAnswers, answers_of, run_count}
pub use Sessions.{IsBroken, SessionView, opening_session, plan_with_edit, with_edit}
pub use Settled.{HasCore, HasGoneOn, IsCoreSettled, IsStateSettled, MayRunSome, count_in, next_count, plan_in, recorded_by, session_with}
pub use declared.{state.State.State}
pub use Rattle.sim_core.specs.{AreOwn, CoreView, Goes, HasDriven, HasOtherAnswer, IsDiffering, IsEdited, IsEditedOn, IsSoundCore}
pub use Rattle.sim_core.specs.{recorded_in, theory_of, verified_in}
pub use Rattle.engine_report.specs.{report_with}
pub use Rattle.retime.specs.{OutcomesGrow}
pub use Rattle.depth_order.specs.{AsksNothing}
pub use Rattle.timing_bridge.specs.{design}
unfoldable pub use Rattle.lockstep_defs.specs.{report}
pub use Rattle.outcome_guard.specs.{Guard, IsPrefix, RunCount, agree_so_far, all_go_on, all_longer, first_counts, longer}
unfoldable pub use Rattle.outcome_guard.specs.{next_counts}
pub use Rattle.query_log.specs.{Log, Query, log_at, no_log}
pub use Rattle.event_timing.specs.{AllVerified, IsFinal, MayRun, opening_core}
pub use Rattle.flow_design.specs.{Edit, EditFits, Plan, plan_code, with_depth}
