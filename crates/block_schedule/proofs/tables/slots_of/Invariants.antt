use Rattle.std.proofs.Common.{◌≡◌, map, take}
use Rattle.std.specs.List.{enumerate_from}
use Rattle.block_schedule.specs.{slot_of}
use Rattle.block_schedule.proofs.tables.slots_of.Given as goal

-- the slots of the operations so far
abbrev pub invariant-loop-number : goal.invariant-loop-number
invariant-loop-number l = l.slots.items ≡ map (slot_of l.interval) (take l.number (enumerate_from 0 l.ops))
