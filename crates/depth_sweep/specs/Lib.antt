pub mod Best
pub mod Grid
pub mod Kept
pub mod Shapes
pub use Best.{IsBest, IsDoneAt, no_point, point_at}
pub use Grid.{depth_edits, depths_between, grid_of, most_points, width}
unfoldable pub use Grid.{grid, point, with_fifo_depths}
pub use Kept.{IsBestKept}
pub use Shapes.{IsShape}
pub use declared.{point.Point.Point, shape.GridShape.GridShape}
pub use Rattle.timelines.specs.{fifos}
pub use Rattle.outcome_guard.specs.{depth_after}
unfoldable pub use Rattle.outcome_guard.specs.{plan_after}
unfoldable pub use Rattle.lockstep_defs.specs.{report}
pub use Rattle.flow_design.specs.{Edit, EditFits, FitsEngine, Plan, is_fifo, kind_at, with_depth}
pub use Rattle.flow_word.specs.{OutOfMemory}
