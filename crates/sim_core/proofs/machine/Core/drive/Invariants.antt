use Rattle.sim_core.specs.{IsGoingRound, visits_left}
use Rattle.sim_core.proofs.Rounds.{to_do}
use Rattle.sim_core.proofs.machine.Core.drive.Given as goal

abbrev pub invariant-loop-next : goal.invariant-loop-next
invariant-loop-next g l = IsGoingRound l.initial.self l.self l.initial.steps l.steps l.cursor l.from

abbrev pub decreases-loop-next : goal.decreases-loop-next
decreases-loop-next g l = visits_left (to_do l.self) l.cursor l.from
