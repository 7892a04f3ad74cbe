use Rattle.event_timing.proofs.FinalReport.{done_limit, event_found, event_before, outputs_right, held_right}
use Rattle.event_timing.proofs.laws.final_reports.Goals as goal

pub returns-clause-counts : goal.returns-clause-counts
returns-clause-counts g c = λ d h i y limit x a f m. done_limit d h i y limit x a f m

pub returns-clause-events : goal.returns-clause-events
returns-clause-events g c = λ d h i y limit x a m k last l n s. event_found d h limit x a m k last l n s

pub returns-clause-before_stop : goal.returns-clause-before_stop
returns-clause-before_stop g c = λ d h i y limit x a m k l. event_before d h limit x a m k l

pub returns-clause-outputs : goal.returns-clause-outputs
returns-clause-outputs g c = λ d h i y limit x a ch k e. outputs_right d h i y limit x a ch k e

pub returns-clause-held : goal.returns-clause-held
returns-clause-held g c = λ d h i y limit x a f u m k l s. held_right d h i y limit x a f u m k l s
