pub mod Fills
pub mod Passed
pub mod Doings
pub mod Spans
pub mod Covers
pub mod CoreDoings
pub mod Coming
pub mod Totals
pub use Fills.{HasFill, fifos, fills, last_clock, moved_before}
unfoldable pub use Fills.{fill}
pub use Passed.{Act, acts_before, acts_in, values_moved}
unfoldable pub use Passed.{acts}
pub use Doings.{blocker, doing_by}
unfoldable pub use Doings.{doing}
pub use Spans.{AreSpans, AreSpansBelow, EndsBefore, IsSpan}
pub use Covers.{GoesOnFrom, HasClock}
pub use CoreDoings.{arrives, core_blocker, core_doing, doing_at, known_in, waits_at, waits_in}
pub use Coming.{Comes, Does, last_span, reached}
pub use Totals.{IsOverFrom, doing_passes, is_moving, is_still, is_still_at, moved_clocks, span_clocks, spans_clocks, still_clocks}
pub use Totals.{still_clocks_at}
unfoldable pub use Totals.{clocks_in}
pub use declared.{span.Doing.Doing, span.Span.Span}
pub use Rattle.timing_bridge.specs.{design, lockstep_run, seen_request}
pub use Rattle.event_timing.specs.{Access, Agrees, Design, Each, IsAgreed, IsDesign, IsFinal, IsHistory, Known, Trace, View, answer}
pub use Rattle.event_timing.specs.{core_accesses, core_reply, from, is_possible, ready, view}
unfoldable pub use Rattle.event_timing.specs.{can_move, done, known, own, rest, since, steps, tally}
pub use Rattle.lockstep_defs.specs.{Exchange, HistoryStep, StandsAtPort, all_in, answered, can_take, contents_of, element_from, front}
pub use Rattle.lockstep_defs.specs.{history, is_full, is_yes, module_step, moved_value, nobody, numbered, pushed_value, reply_by}
pub use Rattle.lockstep_defs.specs.{requests_of, stalled_request, stalls, state, state_at, step_with, values, verdict_at}
unfoldable pub use Rattle.lockstep_defs.specs.{clock_step, first_settled, is_over, is_settled, moved, moved_by, moves, reply, steps_in}
unfoldable pub use Rattle.lockstep_defs.specs.{verdict}
pub use Rattle.flow_design.specs.{Channel, ChannelKind, ClockState, Element, FitsEngine, ModuleState, Plan, Request, clock_of, delay_at}
pub use Rattle.flow_design.specs.{is_fifo, kind_at, no_channel, same_port}
pub use Rattle.flow_word.specs.{Kind, Port, Side, is_blocking, side_of}
