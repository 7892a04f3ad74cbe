pub mod Choices
pub mod Needed
pub mod Least
pub mod LeastText
pub use Choices.{allowed, memory_bits, widths_of}
unfoldable pub use Choices.{choices, least_of}
pub use Needed.{AreNeeded, IsFloor, IsNeeded, IsOutcome, IsTimely}
pub use Least.{IsLeastMemory, is_timely, least_after, least_by, leasts_of}
unfoldable pub use Least.{leasts}
unfoldable pub use LeastText.{least_text}
pub use declared.{finding.Leasts.Leasts}
pub use Rattle.depth_cuts.specs.{AreAbove, AreCheapest, AreDeepest, AreDemands, AreNext, AreRaised, Covers, Cut, Demands, IsCheapest}
pub use Rattle.depth_cuts.specs.{IsCutFor, IsEarlier, IsMet, IsNeedOf, IsNoWorse, Need}
unfoldable pub use Rattle.depth_cuts.specs.{bits_of}
pub use Rattle.path_check.specs.{IsLateBelow}
pub use Rattle.depth_advice.specs.{advised, depth_lines, wide}
pub use Rattle.least_depths.specs.{IsNoLater, is_done_by, most_slack}
pub use Rattle.report_text.specs.{line, text_of_lines, verdict_tokens}
pub use Rattle.depth_order.specs.{AreDeeper, AreDepths, AsksNothing, IsDoneBy, with_depths}
pub use Rattle.sim_core.specs.{CoreView}
unfoldable pub use Rattle.lockstep_defs.specs.{report, verdict}
pub use Rattle.flow_design.specs.{Channel, FitsEngine, Plan, Verdict, is_fifo, kind_at, no_channel}
