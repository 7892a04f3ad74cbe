use Rattle.std.proofs.Common.{arith}
use Rattle.lockstep_defs.proofs.Settled.{settled_stays, history_stays, someone_moves}
use Rattle.lockstep_defs.proofs.Found.{verdict_found, verdict_none}
use Rattle.lockstep_defs.proofs.laws.settled_clocks.Goals as goal

pub returns-clause-stays : goal.returns-clause-stays
returns-clause-stays c = λ p b h n. (settled_stays p b n h, history_stays p b n h)

pub returns-clause-moves : goal.returns-clause-moves
returns-clause-moves c = someone_moves

pub returns-clause-first : goal.returns-clause-first
returns-clause-first c = verdict_found

pub returns-clause-none : goal.returns-clause-none
returns-clause-none c = λ p h. verdict_none p (λ b l. h b (omega arith))
