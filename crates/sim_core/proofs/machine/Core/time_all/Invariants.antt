use Rattle.sim_core.specs.{IsTimingRound}
use Rattle.sim_core.proofs.Rounds.{to_do}
use Rattle.sim_core.proofs.machine.Core.time_all.Given as goal

abbrev pub invariant-loop-batch : goal.invariant-loop-batch
invariant-loop-batch g l = IsTimingRound l.initial.self l.self l.initial.steps l.steps l.at l.done

abbrev pub decreases-loop-batch : goal.decreases-loop-batch
decreases-loop-batch g l = to_do l.self
