use Rattle.event_timing.proofs.Touched.{before_first, all_kept}
use Rattle.event_timing.proofs.laws.first_touched.Goals as goal

pub returns-clause-below : goal.returns-clause-below
returns-clause-below g c = λ d h i y limit x a f fifo depth t l old new never. before_first d h i y limit x a f fifo depth t l old new never

pub returns-clause-none : goal.returns-clause-none
returns-clause-none g c = λ d h limit x a m. all_kept d h limit x a m
