pub mod Edits
pub mod Runs
pub mod Prefixes
pub use Edits.{depth_after, last_edit}
unfoldable pub use Edits.{plan_after}
pub use Runs.{agree_so_far, all_go_on, all_longer, counts_after, first_counts, is_prefix_of, longer}
unfoldable pub use Runs.{next_counts}
pub use Prefixes.{IsPrefix}
pub use declared.{count.RunCount.RunCount, guard.Guard.Guard}
pub use Rattle.flow_design.specs.{Edit, Plan, with_depth}
