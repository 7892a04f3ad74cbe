pub mod Inputs
pub mod Lines
pub mod Operations
pub mod Progress
pub mod TablesOf
pub mod TableTests
pub use Inputs.{input_reading, is_plain, words_within}
pub use Lines.{ReadsLine, ReadsStatement, accepted_if, bytes_left, lines_left, said_by}
unfoldable pub use Lines.{line_reading_by, tokens_reading_by}
pub use Operations.{guard_known, is_variable, named_op, op_of_names, op_reading, store_op, timed_reading, tree_kept, tree_made}
pub use Operations.{tree_reading, trees_kept, trees_reading}
unfoldable pub use Operations.{op_judged, tree_judged, trees_judged}
pub use Progress.{IsLineAdded, IsOpening, IsThrough, KeepsTables, with_prefix}
pub use TablesOf.{IsOfStatements, tables_with}
unfoldable pub use TablesOf.{tables_of}
pub use TableTests.{form_fault_by, is_first_input_in, is_known_in, is_new_in, reading_by, tables_have_room}
unfoldable pub use TableTests.{fault_by}
pub use declared.{operations.TwoNames.TwoNames, tables.Tables.Tables}
pub use Rattle.flow_grammar.specs.{Code, HasFault, IsAnswer, LineFail, LineGives, ParsedOperand, Part, Read, ReadFail, ReadsAs}
pub use Rattle.flow_grammar.specs.{SessionPlace, Sort, Space, StandsFor, TextFails, TextFault, TextGives, at_line, bare, both_operands}
pub use Rattle.flow_grammar.specs.{channels, declared_channel, declared_fifo, default_delay, default_depth, ended, first_broken, form_fault}
pub use Rattle.flow_grammar.specs.{form_of, guarded_of, has_small_trees, if_then, in_body, input_count, is_among, is_edit, is_end}
pub use Rattle.flow_grammar.specs.{is_in_range, is_known_by, is_line_feed, is_no_block, is_no_module, is_operation, is_permitted, is_small}
pub use Rattle.flow_grammar.specs.{is_within, judged, lines_of, load_of, may_stand, name_width, number_of, number_within, one_name}
pub use Rattle.flow_grammar.specs.{one_tree, only_if, only_operand, op_form_of, op_parts, parts, place_reached, plain, prepended}
pub use Rattle.flow_grammar.specs.{session_of, set_of, source_name, store_of, takes_inputs, takes_operations, tokens_fault, try_read_of}
pub use Rattle.flow_grammar.specs.{try_write_of, two_names, two_trees, version, with_number, with_statement, word_count, write_of, ◌>>=◌}
unfoldable pub use Rattle.flow_grammar.specs.{at_of, branch_of, earlier, expr_parts, fifo_of, flow_of, input_of, is_complete, is_number}
unfoldable pub use Rattle.flow_grammar.specs.{limits_of, line_fault, line_reading, loop_of, may_follow, mem_of, op_of, operand_kept}
unfoldable pub use Rattle.flow_grammar.specs.{reading, statement_fault, statement_in, statement_of, token_is_name, tokens_of, trees_of}
pub use Rattle.flow_design.specs.{Expr, Name, Op, Scale, Statement, Token, limits_at}
