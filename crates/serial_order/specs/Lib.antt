pub mod Orders
pub mod SerialRun
pub mod Uses
pub use Orders.{DesignHasModule, all_faults, faults_by, faults_of, first_use, head, is_wide, is_written_at, last_use, lates_of, module_in}
pub use Orders.{numbers_where, offsets_of_use, order_of, query_orders, things, things_of, wides_of, writes_late}
pub use SerialRun.{AreGiven, EndsAlike, EqualsPlainLoops, GetsAsFar, IsPrefixOf, KeepsToPlainLoops, SerialProgress, all_given, alone_at}
pub use SerialRun.{clock_made, exchanges_of, goes_again, iterated, moved_on, serial_reply, value_given}
unfoldable pub use SerialRun.{iteration, serial}
pub use Uses.{is_listed, is_named, is_this, is_use, reading_end, stored_in, writes}
unfoldable pub use Uses.{names}
pub use declared.{order.Order.Order, order.Used.Used}
pub use Rattle.lockstep_defs.specs.{Exchange, HasAllPlaces, IsDueIn, IsStateOf, Own, OwnStep, address_in, again_of, committed, effects}
pub use Rattle.lockstep_defs.specs.{effects_of, followed, fresh_temps, is_block_over, is_fifo_operation, is_query, memory_of, module_at}
pub use Rattle.lockstep_defs.specs.{no_module, own_after, paired, reply_by, request_of, started, stopped, stored, takes, value_of, width_of}
unfoldable pub use Rattle.lockstep_defs.specs.{decided, entered, finished, is_over, move, moved_by, opened, own_next, own_run, requests}
unfoldable pub use Rattle.lockstep_defs.specs.{ticked}
pub use Rattle.flow_design.specs.{BinOp, Block, BlockKind, Channel, Clashes, Control, Design, Due, Expr, IsBlockSound, IsKindSound}
pub use Rattle.flow_design.specs.{IsModuleSound, IsNextSound, IsOperationSound, IsTimedSound, ModuleState, Next, Op, Plan, Reply, Request}
pub use Rattle.flow_design.specs.{Timed, UnOp, block_at, block_of, cut_to, due_in, expressions_of, extended, interval, interval_of, is_loop}
pub use Rattle.flow_design.specs.{is_port, live_count, memory_used, no_block, no_operation, operation_at, passes, places_written, port_of}
pub use Rattle.flow_design.specs.{temps_of, unary, used_port, variable}
unfoldable pub use Rattle.flow_design.specs.{ages, due, due_at, value}
pub use Rattle.flow_word.specs.{Port, Side, same_side}
