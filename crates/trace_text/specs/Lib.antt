pub mod Spans
pub mod Events
pub mod TraceText
pub mod LogText
pub use Spans.{begins_span, begins_with, does, is_doing, same_doing, span_at, span_with}
unfoldable pub use Spans.{spans_of}
pub use Events.{IsDrawn, doing_name, fill_events_at, names_of, span_events}
unfoldable pub use Events.{fill_event, fill_events, name_event, span_event}
pub use TraceText.{closing_text, further, joined_lines, opening_text}
unfoldable pub use TraceText.{trace_text}
pub use LogText.{IsOfDesign, access_tokens, value_tokens}
unfoldable pub use LogText.{log_text}
pub use Rattle.port_clocks.specs.{FifoWalk, IsFifoWalk, next_of}
pub use Rattle.report_text.specs.{channel_name, kind_token, line, module_name, stall_word, text_of_lines, verdict_tokens}
pub use Rattle.sim_core.specs.{LoggedAccess, logged, logged_at, logged_in}
unfoldable pub use Rattle.sim_core.specs.{log_of}
pub use Rattle.engine_report.specs.{HasGiven, IsFinished, IsTimedKey, IsWalk, StepWalk, TimedStep, step_place, to_give}
pub use Rattle.engine_view.specs.{core_of}
pub use Rattle.event_graph.specs.{IsSoundLane, Lane}
pub use Rattle.timelines.specs.{AreSpans, Doing, IsSpan, Span, fifos, last_clock}
unfoldable pub use Rattle.timelines.specs.{doing, fill}
pub use Rattle.timing_bridge.specs.{design, steps_at}
pub use Rattle.lockstep_defs.specs.{Exchange, HasNumbersOf, HistoryStep, event_of, events_of, history}
unfoldable pub use Rattle.lockstep_defs.specs.{report, verdict}
pub use Rattle.flow_design.specs.{Advance, ChannelKind, Design, EventLine, FitsEngine, Plan, Token, Verdict, clock_of, is_fifo, kind_at}
pub use Rattle.flow_design.specs.{same_port, users_wanted, uses}
pub use Rattle.flow_word.specs.{Port, Side, same_side}
pub use Rattle.sim_io.specs.{AppendsPrefix, HasCauseOf, IsTold}
