pub mod Before
pub mod Forms
pub mod Gives
pub mod Keywords
pub mod Line
pub mod Numbers
pub mod Operands
pub mod Operators
pub mod Parts
pub mod Places
pub mod Rules
pub mod Spelling
pub mod Text
pub mod Tokens
pub mod Trees
pub mod Versions
pub use Before.{block_name, blocks, channels, declared_channel, declared_fifo, declared_module, has_delays, in_body, input_count}
pub use Before.{input_values, is_among, is_edit, is_no_block, is_no_module, is_operation, memories, memory_name, modules, operations}
pub use Before.{register_name, registers, source_name, statements_in_module, temp_name, temps, version, word_count}
pub use Forms.{bare, form_if, form_of, guarded_of, if_then, load_of, name_width, one_name, one_tree, only_if, op_form_if, op_form_of}
pub use Forms.{set_of, store_of, try_read_of, try_write_of, two_names, two_trees, write_of}
unfoldable pub use Forms.{at_of, branch_of, fifo_of, flow_of, input_of, limits_of, loop_of, mem_of, op_of, statement_of}
pub use Gives.{LineGives, Read, TextFails, TextGives, at_line, both_operands, ended, judged, only_operand, prepended, with_number}
pub use Gives.{with_statement, ◌>>=◌}
unfoldable pub use Gives.{line_reading, reading}
pub use Keywords.{keyword_word, keywords, verb_word, verbs}
unfoldable pub use Keywords.{keyword_of, verb_of}
pub use Line.{form_fault, tokens_fault}
unfoldable pub use Line.{line_fault, statement_in}
pub use Numbers.{number_within}
pub use Operands.{Takes, apply, apply_if, is_known_by, layer_seen, operand_of_name, operand_of_number, sized_operand, widened}
unfoldable pub use Operands.{choose, earlier, earlier_of, extend, one, operand_kept, operand_seen, take_token, two}
pub use Operators.{binary_word, operator_word, operators}
unfoldable pub use Operators.{operator_of}
pub use Parts.{Part, Sort, Space, bare_parts, default_delay, default_depth, depth_parts, fifo_parts, guard_parts, layer_parts, op_parts}
pub use Parts.{parts, plain}
unfoldable pub use Parts.{expr_parts}
pub use Places.{is_end, may_stand, place_after, place_reached, takes_flow, takes_inputs, takes_operations}
unfoldable pub use Places.{may_follow}
pub use Rules.{KeepsReadingRules, KeepsRules, first_broken, fits_version, has_room, has_small_trees, is_first_input, is_in_range, is_known}
pub use Rules.{is_new, is_sized, is_small, is_well_named, is_within}
unfoldable pub use Rules.{is_complete, statement_fault}
pub use Spelling.{Spelled, Spells, Writes, WritesFifo}
pub use Text.{BreaksRule, Fails, FailsFirst, HasFault, HasNoEnd, IsAnswer, IsInOrder, IsNoStatement, LinesAreInOrder, ReadsAs, Said}
pub use Text.{StandsFor, numbers_among, session_of, statements_among}
pub use Tokens.{is_filled, is_filler, is_line_feed, is_no_comment, is_permitted, is_separator, is_word, lines_of, number_of}
unfoldable pub use Tokens.{is_number, token_is_name, tokens_of}
pub use Trees.{applied, applied_if}
unfoldable pub use Trees.{trees_of, with_token}
pub use Versions.{DifferInVersion, SameButVersion}
pub use declared.{fault.Code.Code, fault.LineFail.LineFail, fault.ReadFail.ReadFail, fault.TextFault.TextFault, keyword.Keyword.Keyword}
pub use declared.{keyword.Verb.Verb, operand.ParsedOperand.ParsedOperand, operator.Operator.Operator, place.SessionPlace.SessionPlace}
pub use Rattle.flow_design.specs.{BinOp, Expr, Name, Op, Scale, Session, Statement, Token, UnOp, limits_at}
unfoldable pub use Rattle.flow_design.specs.{depth, nodes}
pub use Rattle.flow_word.specs.{fitting, is_no_digit, number_unless, number_written, word_of}
