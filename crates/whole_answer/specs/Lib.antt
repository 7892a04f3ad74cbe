pub mod Answer
pub mod Exit
pub mod Further
pub mod Going
pub mod Job
pub mod Made
pub mod Views
pub use Answer.{Answers, AnswersCommand, AnswersSession, AnswersText, BeginsAnswer, HasCauses, IsRest, SaysAnswered, Tells, TellsAnswer}
pub use Answer.{TellsFaults, takes_input}
pub use Exit.{exit_number, status_of}
pub use Further.{beats, best_tokens, first_ending, is_done_at, not_taken, order_tokens, order_words, point_tokens, points_ending}
pub use Further.{used_words}
unfoldable pub use Further.{advice, best_of, fewest_bits, has_query_operation, least_told, ordered, sized, swept, told_points}
pub use Going.{IsGoing, ReportsTold, told_of}
unfoldable pub use Going.{first_told, more_told}
pub use Job.{counts_in, ending_of, endings_of, first_not_done, first_numbers, is_done, plan_at, texts_of}
unfoldable pub use Job.{job, report_after}
pub use Made.{canonical, code_number, first_sink_values, generated, made, refused, refused_words, sum_tokens, summary_lines, with_limits}
unfoldable pub use Made.{summary}
pub use Views.{view_text}
unfoldable pub use Views.{shown}
pub use declared.{answer.Unanswered.Unanswered, ending.Ending.Ending, status.Status.Status}
unfoldable pub use Rattle.least_memory.specs.{least_text, leasts}
pub use Rattle.depth_order.specs.{AsksNothing}
pub use Rattle.serial_order.specs.{DesignHasModule, Order, Used, order_of}
unfoldable pub use Rattle.vcd_wave.specs.{wave_of, wave_text}
unfoldable pub use Rattle.trace_text.specs.{log_text, trace_text}
unfoldable pub use Rattle.stall_text.specs.{stalls_text}
unfoldable pub use Rattle.path_text.specs.{path_text}
pub use Rattle.least_depths.specs.{most_slack}
unfoldable pub use Rattle.least_depths.specs.{size_text, sizes}
pub use Rattle.depth_advice.specs.{advised, depth_lines, wide}
pub use Rattle.depth_sweep.specs.{IsBest, IsDoneAt, Point, grid_of, most_points, no_point, point_at}
unfoldable pub use Rattle.depth_sweep.specs.{point}
pub use Rattle.depth_session.specs.{SessionView, opening_session, with_edit}
pub use Rattle.flow_check.specs.{IsRefusal, KeepsScale, fault_of}
unfoldable pub use Rattle.session_plan.specs.{edits_of, plan_of}
pub use Rattle.flow_grammar.specs.{Code, HasFault, IsAnswer, Said, StandsFor, TextFault, session_of}
unfoldable pub use Rattle.flow_print.specs.{canonical_text}
unfoldable pub use Rattle.flow_gen.specs.{session}
pub use Rattle.cli_words.specs.{AreLimits, Command, IsInRange, IsLimit, IsWithinBounds, Options, ScaledTask, SessionTask, ViewName}
unfoldable pub use Rattle.cli_words.specs.{accepted}
pub use Rattle.sim_core.specs.{CoreView}
pub use Rattle.engine_report.specs.{report_with}
pub use Rattle.module_code.specs.{BlockCode}
pub use Rattle.clock_machine.specs.{AreCodes}
pub use Rattle.report_text.specs.{line, module_name, runs_tokens, spaced, text_of_lines, verdict_tokens, verdict_words}
unfoldable pub use Rattle.report_text.specs.{report_text_of}
pub use Rattle.outcome_guard.specs.{RunCount, all_go_on, counts_after, depth_after, first_counts}
unfoldable pub use Rattle.outcome_guard.specs.{next_counts, plan_after}
pub use Rattle.lockstep_defs.specs.{HasNumbersOf, is_query}
unfoldable pub use Rattle.lockstep_defs.specs.{report, verdict}
pub use Rattle.flow_design.specs.{Block, Design, Edit, EditFits, FitsEngine, Plan, Report, Scale, Statement, Token, Verdict, clock_of}
pub use Rattle.flow_design.specs.{limits_at, with_depth}
pub use Rattle.sim_io.specs.{AppendsPrefix, HasCauseOf, IsTold, LosesCount, Rose}
