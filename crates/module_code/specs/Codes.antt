-- The code of blocks.
use Rattle.std.specs.Prelude.{ℕ, ◌≡◌, ◌<◌, ◌≤◌, List, All, length, map, slice_index_or}
use Rattle.flow_design.specs.{Block, Channel, block_at, operation_at, declared.design.Module.Module}
use Rattle.block_schedule.specs.{IsScheduleOf}
use Rattle.module_code.specs.{declared.code.BlockCode.BlockCode, declared.code.Guarded.Guarded, Actions.IsActionOf, Actions.action_room}

-- this is the operation of a block that stands in a slot, with its guard; its action needs no room for more results than `room`
pub record IsGuardedOf (channels : List Channel) (m : Module) (b : Block) (room : ℕ) (g : Guarded) : Type 0 where
  pub guard : g.guard ≡ (operation_at b g.slot.op).guard
  pub action : IsActionOf channels m b g.action (operation_at b g.slot.op).op
  pub few : action_room g.action ≤ room

-- this is the code of a block: its schedule, and the operations of the slots as actions
pub record IsBlockCodeOf (channels : List Channel) (m : Module) (b : Block) (c : BlockCode) : Type 0 where
  pub schedule : IsScheduleOf b c.schedule
  pub slots : map (λ g. g.slot) c.actions ≡ c.schedule.slots.items
  pub each : All (IsGuardedOf channels m b c.room) c.actions

-- this is the code of each block of a module
pub record AreCodesOf (channels : List Channel) (m : Module) (codes : List BlockCode) : Type 0 where
  pub count : length codes ≡ length m.blocks
  pub each : (n : ℕ) (d : BlockCode) → n < length m.blocks → IsBlockCodeOf channels m (block_at m n) (slice_index_or codes n d)
