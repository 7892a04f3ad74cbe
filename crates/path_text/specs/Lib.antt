pub mod Walks
pub mod Owners
pub mod Polls
pub mod Finds
pub mod Counts
pub mod PathText
pub mod Sums
pub use Walks.{AreSpansSorted, HasSpans, IsLastMove, IsWith, MovesBefore, StoodBefore, before_link, end_by, end_with, last_with, link_at}
pub use Walks.{moving_end, stalled_port}
pub use Owners.{owners_at}
pub use Polls.{AreAccesses, EndsEarlier, access_clock, before_by, before_polled, ends_poll, from_query, front_pushed, going_on, if_some}
pub use Polls.{is_hit, last_poll, later_one, latest_one, link_by, links_in, missed_before, move_by, passing_clocks, polled_from}
pub use Polls.{polled_link, polled_path, polls_along, seeks}
unfoldable pub use Polls.{last_move, polled_chain}
pub use Finds.{AreChronological, AreFinds, AreMissed, AreMoved, by_find, find_clock, found_by, lies_in, missed_by, missed_more, missed_of}
pub use Finds.{missed_with, precedes, precedes_link, unmissed, with_find}
unfoldable pub use Finds.{last_missed}
pub use Counts.{AreLinksOf, ArePolledIn, IsLinkOf, IsPollOf, at_sides, clocks_at, clocks_spent, clocks_waited, clocks_waiting, crossings}
pub use Counts.{link_clocks, times_polled, waiting_at}
pub use PathText.{all_spend_lines, channel_lines, count_lines, cross_lines, lines_at, link_lines, link_tokens, path_lines, polled_lines}
pub use PathText.{spend_lines, told_links, told_polls}
unfoldable pub use PathText.{path_text}
pub use Sums.{crossed_clocks, spent_clocks, told_clocks}
pub use declared.{finds.Find.Find, finds.LastMissed.LastMissed, link.Polled.Polled, link.PolledLink.PolledLink, walk.At.At}
pub use Rattle.stall_text.specs.{access_clocks, is_missed, is_of, is_query_on, misses, moved_at, same_query, shifted}
pub use Rattle.port_clocks.specs.{ArePortClocks, before, is_ahead}
pub use Rattle.depth_order.specs.{AsksNothing, IsEnd, Link, MovesLast, NoneMoves, chain_across, chain_clocks, chain_from, clocks_across}
pub use Rattle.depth_order.specs.{first_mover, moves_at, request_port, spent, stands_at, stood_at, under_way}
unfoldable pub use Rattle.depth_order.specs.{chain, path, span_start}
pub use Rattle.report_text.specs.{channel_name, line, module_name, stall_word, text_of_lines, verdict_tokens}
pub use Rattle.sim_core.specs.{AreUsers, LoggedAccess}
unfoldable pub use Rattle.sim_core.specs.{log_of}
pub use Rattle.timelines.specs.{Act, AreSpansBelow, Doing, EndsBefore, IsSpan, Span, acts_before, acts_in, doing_by, last_clock}
unfoldable pub use Rattle.timelines.specs.{acts, doing}
pub use Rattle.engine_report.specs.{report_with}
pub use Rattle.timing_bridge.specs.{lag_in, seen_request}
pub use Rattle.lockstep_defs.specs.{Exchange, HistoryStep, StandsAtPort, answered, can_take, contents_of, front, is_empty, is_yes}
pub use Rattle.lockstep_defs.specs.{module_step, nobody, reply_by, requests_of, stalls, state, state_at, step_with}
unfoldable pub use Rattle.lockstep_defs.specs.{is_over, moves, owner, reply, report, steps_in, verdict}
pub use Rattle.event_timing.specs.{Each}
pub use Rattle.flow_design.specs.{Channel, Design, FitsEngine, ModuleState, Plan, Reply, Report, Request, Token, Verdict, clock_of}
pub use Rattle.flow_design.specs.{delay_at, delay_of, is_fifo, is_port, kind_at, no_channel}
pub use Rattle.flow_word.specs.{Kind, Port, Side, is_blocking, other_side, same_side, side_of}
