use Rattle.std.proofs.Common.{◌-◌}
use Rattle.block_schedule.specs.{Block, IsScheduleOf, StandsIn}
use Rattle.block_schedule.proofs.Next.{IsRound}
use Rattle.block_schedule.proofs.schedule.Schedule.next_due.Given as goal

-- up to this round's phase it was quiet, whatever block the schedule is of
abbrev pub invariant-loop-start : goal.invariant-loop-start
invariant-loop-start l = (b : Block) → IsScheduleOf b l.self → StandsIn b l.control → IsRound b l.control l.whole l.start l.phase

abbrev pub decreases-loop-start : goal.decreases-loop-start
decreases-loop-start l = l.turn - l.start
