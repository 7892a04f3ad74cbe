pub mod Canonical
pub use Canonical.{statement_tokens, token_of, version_of, written_parts}
unfoldable pub use Canonical.{canonical_text, spaced_parts}
pub use Rattle.flow_grammar.specs.{IsInOrder, KeepsReadingRules, KeepsRules, Part, Spelled, Spells, StandsFor, Writes, WritesFifo}
pub use Rattle.flow_grammar.specs.{binary_word, default_delay, depth_parts, fifo_parts, fits_version, guard_parts, has_delays, is_filled}
pub use Rattle.flow_grammar.specs.{is_in_range, is_line_feed, is_no_comment, is_permitted, is_separator, is_well_named, keyword_word}
pub use Rattle.flow_grammar.specs.{lines_of, number_of, numbers_among, op_parts, parts, plain, statements_among, version}
unfoldable pub use Rattle.flow_grammar.specs.{expr_parts, is_complete, is_number, may_follow, statement_fault, token_is_name, tokens_of}
pub use Rattle.report_text.specs.{line, text_of_lines}
pub use Rattle.flow_design.specs.{BinOp, Expr, Name, Op, Scale, Statement, Token, UnOp, is_name_byte, limits_at}
