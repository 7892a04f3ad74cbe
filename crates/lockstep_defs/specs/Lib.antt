pub mod Machine
pub mod Channels
pub mod Lockstep
pub mod Verdict
pub mod Report
pub mod OwnRun
pub mod Quiet
pub mod States
pub mod Ports
pub mod Commits
pub mod Laws
pub mod Examples
pub mod Shows
pub use Machine.{address_in, again_of, committed, effects, effects_of, followed, fresh_temps, is_block_over, is_fifo_operation, is_spent}
pub use Machine.{is_yes, memory_of, nobody, request_for, request_of, started, stopped, stored, value_in, value_of, width_of}
unfoldable pub use Machine.{decided, entered, finished, is_over, move, opened, requests, ticked}
pub use Channels.{Exchange, HistoryStep, all_ready, can_take, contents_of, element_from, front, is_empty, is_full, moved_value}
pub use Channels.{popped_value, pushed_value, reply_by, stalls, values}
unfoldable pub use Channels.{moved, moved_by, reply}
pub use Lockstep.{Moment, answered, contents_after, history, inputs_of, module_at, module_step, next_moment, next_state, no_module}
pub use Lockstep.{numbered, requests_of, state, state_at, step_with}
unfoldable pub use Lockstep.{clock_step, moment, moves, opening, steps_in}
pub use Verdict.{held, held_at, held_by, held_modules, settled_verdict, some_moves, stalled_request, verdict_at}
unfoldable pub use Verdict.{first_settled, is_settled, verdict}
pub use Report.{answers_in, event_of, events_of, outcomes, outputs_in, queries, report_at, report_in_state, sinks, steps_of}
unfoldable pub use Report.{report}
pub use OwnRun.{Own, OwnStep, access_of, end_mark, own_after, paired, step_marks}
unfoldable pub use OwnRun.{marks, own_next, own_run}
pub use Quiet.{clocks_left, fits, is_some_request, keeps_looping, own_later, rests, skip, span}
unfoldable pub use Quiet.{measure, quiet, quiet_below}
pub use States.{HasAllPlaces, IsDueIn, IsStateOf, IsWithin}
pub use Ports.{StandsAtPort, has_port, is_taker, takes, taking_requests}
unfoldable pub use Ports.{owner}
pub use Commits.{LastWins, cut_or_kept, last_value, writes_register, writes_temp, writes_word, written}
pub use Laws.{AreAges, AsksOnce, HasNumbersOf, IsBefore, IsConserved, IsCounted, IsLive, IsOwnRun, MovesOnce, NoneBefore, PopsInOrder}
pub use Laws.{QuietClocksEnd, SettledStays, SomeoneMoves, all_in, exchanges_by_step, is_query, own_at, replies_by_step}
unfoldable pub use Laws.{clocks_made}
pub use Shows.{access, event, held_by_channel, step_mark}
pub use Rattle.flow_design.specs.{Advance, AreEntriesSound, Block, BlockKind, Channel, ChannelKind, Clashes, ClockState, Control, Due}
pub use Rattle.flow_design.specs.{Effect, Element, EventLine, Expr, FitsEngine, Held, IsBlockSound, IsKindSound, IsModuleSound, IsNextSound}
pub use Rattle.flow_design.specs.{IsTimedSound, Memory, ModuleState, Next, Op, Plan, Reply, Request, Timed, ages_down, block_at, block_of}
pub use Rattle.flow_design.specs.{clock_of, cut_to, delay_at, delay_of, due_in, expressions_of, interval, interval_of, is_fifo, is_loop}
pub use Rattle.flow_design.specs.{is_port, is_sink, kind_and_channel, kind_at, live_count, no_block, no_channel, no_operation, operation_at}
pub use Rattle.flow_design.specs.{passes, port, port_of, same_port, taken_port, temps_of, used_port, users_wanted, uses}
unfoldable pub use Rattle.flow_design.specs.{ages, due, due_at, value}
pub use Rattle.flow_word.specs.{Access, Kind, Port, Side, is_blocking, same_side, side_of}
