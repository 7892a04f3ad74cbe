pub mod NameTables
pub mod Names
pub mod Numbered
pub mod Plans
pub mod Sections
pub mod Tables
pub use NameTables.{number_at}
pub use Names.{Scope, name_number, place_among}
pub use Numbered.{operation, places, terminator, timed}
unfoldable pub use Numbered.{numbered_expr}
pub use Plans.{channel, channel_names, channels_of, cut_inputs, depth_in, edit, first_or, inputs_for, kind_of, len_of, limits, memory}
pub use Plans.{name_declared, plan_modules, scope_of, session_limits, values_for}
unfoldable pub use Plans.{block, edits_of, plan_module, plan_of}
pub use Sections.{begins, body_of, declared_width, sections}
pub use Tables.{scope_at}
pub use declared.{section.Level.Level}
pub use Rattle.flow_design.specs.{BinOp, Block, BlockKind, Channel, ChannelKind, Edit, Expr, Memory, Name, Next, Op, Plan, Scale, Statement}
pub use Rattle.flow_design.specs.{Timed, UnOp, cut_to, limits_at, no_channel}
