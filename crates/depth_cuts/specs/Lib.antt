pub mod Met
pub mod Cuts
pub mod Searching
pub mod Rises
pub mod PlanCuts
pub mod Raised
pub use Met.{IsMet, IsUnmet, MeetsBetween, cut_at}
pub use Cuts.{AreAbove, AreCheapest, AreDemands, ComesBefore, Covers, IsCheapest, IsEarlier, IsNeed, IsNoWorse}
unfoldable pub use Cuts.{bits_of}
pub use Searching.{AreTried, Improves, IsAt, IsBestSoFar, IsFound, IsNeedTried, IsSearched, need_at, swapped}
pub use Rises.{AddsBits, ReachesBits}
pub use PlanCuts.{AreDeepest, IsCutFor, IsNeedOf}
pub use Raised.{AreNext, AreRaised, IsNextNeed, IsRaised}
pub use declared.{cuts.Cut.Cut, cuts.Demands.Demands, cuts.Need.Need, order.Choice.Choice, search.Before.Before}
pub use Rattle.path_check.specs.{IsTried}
pub use Rattle.depth_order.specs.{AreDeeper, AreDepths, AsksNothing, IsDoneBy, with_depths}
pub use Rattle.engine_report.specs.{HoldsEnd}
pub use Rattle.engine_view.specs.{Engine}
pub use Rattle.time_engine.specs.{HasAccesses, IsAccess}
pub use Rattle.event_graph.specs.{HasStep, Lane, in_lane, lane_at, no_lane}
pub use Rattle.fifo_table.specs.{Channel}
unfoldable pub use Rattle.lockstep_defs.specs.{verdict}
pub use Rattle.flow_design.specs.{FitsEngine, Plan, Verdict, is_fifo, kind_at}
pub use Rattle.flow_word.specs.{Access, Place, Step}
