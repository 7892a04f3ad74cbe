-- In the middle of a change an engine is some core still.
use Rattle.std.proofs.Common.{◌<◌, length}
use Rattle.cycle_changes.specs.{ModuleState, Edit, IsFifo, channel_at, Design, edited, IsKept, IsRoomy, Engine, held_in, IsSomeCore}
use Rattle.cycle_changes.specs.{KeepsRoomEdited, HasOtherCycles, LosesNoRoom}
use Rattle.event_timing.proofs.Editing.{edit_design}
use Rattle.cycle_changes.proofs.OtherHeld.{other_now, other_room}

module _ (s t : Engine) (edit : Edit) (inside : edit.channel < length s.fifos.channels)
    (is_fifo : IsFifo (channel_at s.fifos.channels edit.channel).kind) (o : HasOtherCycles (held_in s) (held_in t) edit)
    (loses : LosesNoRoom s t) where
  roomy : (d : Design ModuleState) → IsKept d (held_in s) → IsRoomy d s
      → IsRoomy (edited d edit.channel edit.depth) t
  roomy d k r =
      rw (loses.logs, loses.credits)
      (other_room d (held_in s) (held_in t) edit k inside is_fifo o s.graph.rooms t.graph.rooms s.fifos t.fifos
      s.log.rooms s.credits.items r loses.lanes loses.fifos)

  pub some_core : IsSomeCore s → IsSomeCore t
  some_core (d, i, k, r) = (
    edited d edit.channel edit.depth,
    edit_design d edit.channel edit.depth i,
    (other_now d (held_in s) (held_in t) edit k inside is_fifo o).kept,
    roomy d k r,
  )

  pub keeps_room : KeepsRoomEdited edit s t
  keeps_room = record { ends = loses.ends; credits = loses.credits; room = λ d i k r. roomy d k r }
