use Rattle.event_timing.proofs.NoRun.{edit_no_run, recorded_no_run}
use Rattle.event_timing.proofs.laws.recorded_outcomes.Goals as goal

pub returns-clause-edited : goal.returns-clause-edited
returns-clause-edited g c = λ d x fifo depth t m r. edit_no_run d x fifo depth t m r

pub returns-clause-kept : goal.returns-clause-kept
returns-clause-kept g c = λ d h i y limit x a f actions z s m r. recorded_no_run d h i y limit x a f actions z s m r
