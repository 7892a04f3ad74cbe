use Rattle.std.proofs.Common.{◌≡◌, ◌+◌, ◌≤◌, drop, length, ℕ}
use Rattle.block_schedule.proofs.Next.{NoneAtAge, IsPlaceOf}
use Rattle.block_schedule.proofs.schedule.Schedule.next_phase.Given as goal

-- none of the slots so far is at such an age
abbrev pub invariant-loop-slot : goal.invariant-loop-slot
invariant-loop-slot l = (place : ℕ) × ((l.slot-items ≡ drop place l.self.slots.items) × (IsPlaceOf l.self l.phase place
    × ((place ≤ length l.self.slots.items) × NoneAtAge l.self l.whole l.live place (place + l.slot-index))))
