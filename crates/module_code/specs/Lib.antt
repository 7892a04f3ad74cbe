pub mod Actions
pub mod Codes
pub mod Flat
pub mod Masks
pub mod Notes
pub mod Operands
pub mod Prepared
pub mod Ready
pub mod Requests
pub mod Targets
pub mod Moves
pub mod Sound
pub use Actions.{IsActionOf, IsActionReady, action_address, action_request, action_room, action_value, carried_out, live_value, takes_reply}
pub use Codes.{AreCodesOf, IsBlockCodeOf, IsGuardedOf}
pub use Flat.{IsArgumentSound, IsCodeOf, IsInstructionSound, argument_value, result_of}
unfoldable pub use Flat.{AreSound, ran}
pub use Masks.{IsMaskOf}
pub use Notes.{AreNotesIn, due_by, effects_by, effects_from, listed, no_notes, noted_address, noted_by, noted_for, noted_value}
pub use Operands.{IsOperandOf, IsOperandSound, operand_room, operand_value}
pub use Prepared.{request_in, written_address, written_value}
pub use Ready.{IsOperationReady, places_in}
pub use Requests.{request_from}
pub use Targets.{IsTargetOf, put_value, put_word}
pub use Moves.{counted, gone_on, notes_of, passing, standing, ticked_to}
pub use Sound.{AreNotesOf, CanCommit, HasCode, IsActionAt, IsDueSound, IsRunnable, IsStateSound}
pub use declared.{action.OpCode.OpCode, code.BlockCode.BlockCode, code.Guarded.Guarded, flat.Argument.Argument}
pub use declared.{flat.Instruction.Instruction, noted.Note.Note, noted.Noted.Noted, operand.Operand.Operand, target.Target.Target}
pub use Rattle.block_schedule.specs.{DueRange, IsScheduleOf, IsSlotOf, KeepsLimits, Slot, due_at_ages, placed, slots_in}
pub use Rattle.lockstep_defs.specs.{IsStateOf, address_in, again_of, committed, effects, effects_of, is_fifo_operation, is_spent, is_yes}
pub use Rattle.lockstep_defs.specs.{memory_of, request_for, request_of, started, stopped, stored, value_in, value_of, width_of}
unfoldable pub use Rattle.lockstep_defs.specs.{decided, entered, finished, is_over, move, opened, requests, ticked}
pub use Rattle.flow_design.specs.{BinOp, Block, Channel, Control, Due, Effect, Expr, IsMemorySound, IsModuleSound, IsNextSound}
pub use Rattle.flow_design.specs.{IsOperationSound, IsTimedSound, Memory, ModuleState, Op, Reply, Request, Timed, UnOp, ages_down, binary}
pub use Rattle.flow_design.specs.{block_at, block_of, cut_to, due_in, extended, interval, is_loop, layer_reach, live_count, no_block}
pub use Rattle.flow_design.specs.{no_operation, operation_at, passes, temps_of, unary, variable}
unfoldable pub use Rattle.flow_design.specs.{ages, due, due_at, reach, value}
pub use Rattle.flow_word.specs.{Access, Kind}
