pub mod Lines
pub mod ReportText
pub use Lines.{line, runs_tokens, spaced, text_of_lines, verdict_tokens, verdict_words}
pub use ReportText.{IsReportOf, channel_name, event_lines, event_tokens, held_lines, held_tokens, kind_token, module_name, output_lines}
pub use ReportText.{output_tokens, sink_names, stall_word, tells_held}
unfoldable pub use ReportText.{report_text_of}
pub use Rattle.flow_design.specs.{Channel, Design, EventLine, Held, Report, Token, Verdict, is_sink}
pub use Rattle.flow_word.specs.{Kind, Side}
