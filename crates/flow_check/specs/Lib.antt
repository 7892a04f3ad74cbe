pub mod Broken
pub mod Checked
pub mod First
pub mod Places
pub mod Ports
pub mod Read
pub mod Rules
pub mod Scales
pub mod Users
pub use Broken.{TellsFirst, breaks, channel_breaks, some_passes, spot_breaks, statement_breaks}
pub use Checked.{IsRefusal, fault_of, fault_on_line}
pub use First.{first_after, first_for, first_in, or_later, place_where, sooner}
pub use Places.{counts, counts_more, in_last_block, in_last_module, is_item, item_after, item_place, items_after, items_of, line_of}
pub use Places.{same_item, same_spot}
pub use Ports.{HasPorts, HavePorts, has, has_slot, has_this}
pub use Read.{IsBlockRead, IsKindRead, IsMemoryRead, IsModuleRead, IsNextRead, IsPlanRead, IsTimedRead}
pub use Rules.{PortSlot, breaks_limits, broken_by, clashes, has_users, in_module, is_bad_loop, is_on_wrong_side, is_served, is_slot}
pub use Rules.{is_too_late, lacks_port, lacks_users, leads_out, phase, rules, same_slot, slot, spot, spot_in, takes_again}
unfoldable pub use Rules.{checking_fault}
pub use Scales.{HasFewLive, IsBlockWithin, KeepsScale}
pub use Users.{AreAlike, AreCounted, AreUserCounts, IsCounting}
pub use declared.{item.Item.Item, item.Spot.Spot, place.CountsBefore.CountsBefore}
pub use Rattle.session_plan.specs.{Level, Scope, begins, body_of, channel, channel_names, channels_of, cut_inputs, declared_width, depth_in}
pub use Rattle.session_plan.specs.{edit, first_or, inputs_for, kind_of, len_of, memory, name_number, operation, places, plan_modules}
pub use Rattle.session_plan.specs.{scope_of, sections, session_limits, terminator, timed, values_for}
unfoldable pub use Rattle.session_plan.specs.{block, edits_of, numbered_expr, plan_module, plan_of}
pub use Rattle.flow_grammar.specs.{Code, KeepsReadingRules, KeepsRules, Part, ReadFail, TextFault, block_name, blocks, channels}
pub use Rattle.flow_grammar.specs.{declared_channel, declared_fifo, declared_module, has_room, has_small_trees, in_body, input_count}
pub use Rattle.flow_grammar.specs.{input_values, is_among, is_in_range, is_known, is_new, is_no_block, is_no_module, is_operation, is_sized}
pub use Rattle.flow_grammar.specs.{is_small, is_well_named, may_stand, memories, memory_name, modules, op_parts, operations, parts}
pub use Rattle.flow_grammar.specs.{place_reached, register_name, registers, statements_in_module, temp_name, temps}
unfoldable pub use Rattle.flow_grammar.specs.{expr_parts, is_complete, may_follow, statement_fault, token_is_name}
pub use Rattle.flow_design.specs.{AreEntriesSound, Block, BlockKind, Channel, ChannelKind, Clashes, Edit, EditFits, Expr, FitsEngine}
pub use Rattle.flow_design.specs.{IsBlockSound, IsChannelSound, IsExpressionSound, IsKindSound, IsModuleSound, IsNextSound, IsTimedSound}
pub use Rattle.flow_design.specs.{Memory, Name, Next, Op, Plan, Scale, Statement, Timed, UnOp, expressions_of, interval, interval_of}
pub use Rattle.flow_design.specs.{is_fifo, is_name, is_port, kind_at, limits_at, longest_block, memory_used, no_block, no_channel}
pub use Rattle.flow_design.specs.{no_operation, places_written, port_at, port_of, same_port, used_port, users_wanted, uses}
unfoldable pub use Rattle.flow_design.specs.{depth, nodes, reach}
pub use Rattle.flow_word.specs.{Port, Side}
