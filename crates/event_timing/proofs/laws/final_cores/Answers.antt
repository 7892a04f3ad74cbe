use Rattle.event_timing.proofs.{Agreement.final_complete, Verdict.rests, Verdict.moved, Verdict.determined_late}
use Rattle.event_timing.proofs.laws.final_cores.Goals as goal

pub returns-clause-complete : goal.returns-clause-complete
returns-clause-complete g c = λ d h i y limit x a f m k l. final_complete d h i y limit x a f m k l

pub returns-clause-rests : goal.returns-clause-rests
returns-clause-rests g c = λ d h i y limit x a f u last s. rests d h i y limit x a f u last s

pub returns-clause-moved : goal.returns-clause-moved
returns-clause-moved g c = λ d h i y limit x a f u m k e. moved d h i y limit x a f u m k e

pub returns-clause-late : goal.returns-clause-late
returns-clause-late g c = λ d h i y limit x a f m k e. determined_late d h i y limit x a f m k e
