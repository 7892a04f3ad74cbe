pub mod Stalls
pub mod StallText
pub mod Causes
pub mod Filling
pub mod Polls
pub mod Polling
pub use Stalls.{access_clocks, moved_at}
unfoldable pub use Stalls.{empty_clocks, full_clocks, port_clocks}
pub use StallText.{at_each_side, cause_lines, causes_of, clock_lines, fifo_line, fifo_tokens, last_after, module_lines, module_tokens}
pub use StallText.{port_lines, port_word, ports_of}
unfoldable pub use StallText.{stalls_text}
pub use Causes.{HasChannelBelow, causes_by}
pub use Filling.{IsFilling, empty_by, shifted}
pub use Polls.{at_each_query, is_missed, is_of, is_query_on, log_of_module, misses, poll_lines, polls_in, polls_lines, query_lines}
pub use Polls.{same_query, tries_of}
unfoldable pub use Polls.{polled_clocks}
pub use Polling.{AreAsked, ArePollings, ArePollsOf, AreQueries, HaveChannels, HavePolls, all_queries, is_last, kept_lines, last_module}
pub use Polling.{one_if, own_queries, polled_so_far, polling_lines, polling_of, polling_with, tally_of, unasked, unpolled, with_query}
unfoldable pub use Polling.{asked_at}
pub use declared.{queries.Queries.Queries}
pub use Rattle.port_clocks.specs.{AreClocks, ArePortClocks, before, is_ahead}
unfoldable pub use Rattle.port_clocks.specs.{ahead_clocks, most_ahead, peak}
pub use Rattle.report_text.specs.{channel_name, kind_token, line, module_name, stall_word, text_of_lines, verdict_tokens}
pub use Rattle.sim_core.specs.{LoggedAccess, logged, logged_in}
unfoldable pub use Rattle.sim_core.specs.{log_of}
pub use Rattle.timelines.specs.{Act, AreSpans, Doing, Span, acts_before, acts_in, doing_passes, fifos, is_moving, is_still, is_still_at}
pub use Rattle.timelines.specs.{last_clock, moved_before, moved_clocks, span_clocks, spans_clocks, still_clocks, still_clocks_at}
pub use Rattle.timelines.specs.{values_moved}
unfoldable pub use Rattle.timelines.specs.{acts, clocks_in, doing, fill}
pub use Rattle.lockstep_defs.specs.{Exchange, HistoryStep, StandsAtPort, all_in, answered, contents_of, history, is_empty, is_full, is_yes}
pub use Rattle.lockstep_defs.specs.{module_step, moved_value, numbered, popped_value, pushed_value, requests_of, state, step_with, value_in}
pub use Rattle.lockstep_defs.specs.{values}
unfoldable pub use Rattle.lockstep_defs.specs.{moved, moves, owner, steps_in, verdict}
pub use Rattle.flow_design.specs.{Channel, Design, Element, FitsEngine, ModuleState, Plan, Request, Token, Verdict, clock_of, delay_at}
pub use Rattle.flow_design.specs.{is_fifo, kind_at, same_port}
pub use Rattle.flow_word.specs.{Kind, Port, Side, is_blocking, same_side, side_of}
