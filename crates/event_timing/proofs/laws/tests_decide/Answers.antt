use Rattle.event_timing.proofs.Deciding.{run_decided, assign_decided, answer_decided, open_decided, quiet_decided, earliest_decided}
use Rattle.event_timing.proofs.Deciding.{final_decided}
use Rattle.event_timing.proofs.laws.tests_decide.Goals as goal

pub returns-clause-run : goal.returns-clause-run
returns-clause-run g c = λ d x m. run_decided d x m

pub returns-clause-assign : goal.returns-clause-assign
returns-clause-assign g c = λ d limit x m. assign_decided d limit x m

pub returns-clause-answer : goal.returns-clause-answer
returns-clause-answer g c = λ d limit x m. answer_decided d limit x m

pub returns-clause-open_step : goal.returns-clause-open_step
returns-clause-open_step g c = λ d limit x m. open_decided d limit x m

pub returns-clause-quiet : goal.returns-clause-quiet
returns-clause-quiet g c = λ d limit x w. quiet_decided d limit x w

pub returns-clause-earliest : goal.returns-clause-earliest
returns-clause-earliest g c = λ d limit x w m. earliest_decided d limit x w m

pub returns-clause-last : goal.returns-clause-last
returns-clause-last g c = λ d limit x w. final_decided d limit x w
