use Rattle.std.proofs.Common.{◌≡◌, length}
use Rattle.block_schedule.specs.{ArePhases}
use Rattle.block_schedule.proofs.tables.phases_of.Given as goal

-- the ranges of the phases so far
abbrev pub invariant-loop-phase : goal.invariant-loop-phase
invariant-loop-phase l = (length l.phases.items ≡ l.phase) × ArePhases l.slots l.phases.items
