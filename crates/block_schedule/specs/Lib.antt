pub mod Schedules
pub mod Work
pub use Schedules.{ArePhases, IsRange, IsScheduleOf, IsSlotOf, KeepsLimits, due_at_ages, of_rank, placed, rank, slot_of, slots_in}
pub use Work.{HasNoPhase, HasOperation, HasOperationAt, HasOperationIn, HasWork, IsDecided, IsNextDue, IsNextPhase, IsOver, StandsIn}
pub use Work.{at_clock}
pub use declared.{schedule.DueRange.DueRange, schedule.Schedule.Schedule, tables.Slot.Slot}
pub use Rattle.lockstep_defs.specs.{IsLive}
pub use Rattle.flow_design.specs.{Block, Control, IsBlockSound, IsModuleSound, Timed, ages_down, interval, is_loop, live_count}
pub use Rattle.flow_design.specs.{no_operation}
unfoldable pub use Rattle.flow_design.specs.{ages, due_at}
