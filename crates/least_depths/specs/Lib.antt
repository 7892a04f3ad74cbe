pub mod Halving
pub mod Limits
pub mod Lowering
pub mod Known
pub mod Least
pub mod SizeText
pub use Halving.{Found, digits, middle, tried_one_more, untried}
unfoldable pub use Halving.{bits, halved}
pub use Limits.{limit_for, limited}
pub use Lowering.{AreLeast, HasDepth, Lowered, all_bits, is_done_by, is_in_time, least_for, untouched, with_found}
unfoldable pub use Lowering.{lowered}
pub use Known.{AreKnown, IsAlike}
pub use Least.{IsLeast, IsNoLater, first_runs, most_slack, sized_by, sizes_of}
unfoldable pub use Least.{sizes}
unfoldable pub use SizeText.{size_text}
pub use declared.{sizing.Sizes.Sizes}
pub use Rattle.path_check.specs.{IsLateBelow}
pub use Rattle.depth_advice.specs.{advised, depth_lines, wide}
pub use Rattle.report_text.specs.{text_of_lines, verdict_tokens}
pub use Rattle.depth_order.specs.{AreDeeper, AreDepths, AsksNothing, IsDoneBy, with_depths}
pub use Rattle.depth_session.specs.{SessionView, plan_with_edit, with_edit}
pub use Rattle.outcome_guard.specs.{RunCount, all_go_on}
unfoldable pub use Rattle.outcome_guard.specs.{next_counts}
pub use Rattle.lockstep_defs.specs.{Moment, NoneBefore, is_spent, next_moment, settled_verdict, state}
unfoldable pub use Rattle.lockstep_defs.specs.{clock_step, is_settled, moment, moves, opening, reply, report, steps_in, verdict}
pub use Rattle.flow_design.specs.{Channel, ClockState, Design, Edit, EditFits, FitsEngine, Plan, Report, Verdict, is_fifo, kind_at}
pub use Rattle.flow_design.specs.{with_depth}
