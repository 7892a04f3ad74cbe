use Rattle.std.proofs.Common.{arith}
use Rattle.engine_report.specs.{determined}
use Rattle.engine_report.proofs.verdict.is_determined.Goals as goal

pub returns-in-At : goal.returns-in-At
returns-in-At c = rw ((c.candidate.ensures.at _).0 c.in-At.is).0

pub returns-in-Waits : goal.returns-in-Waits
unfolding determined
returns-in-Waits c = let waits = (c.candidate.ensures.waits _).0 c.in-Waits.is in grind arith
