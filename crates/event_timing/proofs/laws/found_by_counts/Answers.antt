use Rattle.event_timing.proofs.{Agreement.answer_found, Agreement.earliest_found, Fronts.agrees, OwnRuns.place_unique}
use Rattle.event_timing.proofs.Candidate.{candidate_done, candidate_steps}
use Rattle.event_timing.specs.{view}
use Rattle.event_timing.proofs.laws.found_by_counts.Goals as goal

pub returns-clause-cycle : goal.returns-clause-cycle
returns-clause-cycle g c =
    λ d h i y limit x a m k e. (
      candidate_steps d h i y (view d x) (agrees d h limit x a.marks a.time) m k e,
      candidate_done d h i y (view d x)
          (agrees d h limit x a.marks a.time) m k e,
    )

pub returns-clause-answered : goal.returns-clause-answered
returns-clause-answered g c = λ d h i y limit x a m k r. answer_found d h i y limit x a m k r

pub returns-clause-earliest : goal.returns-clause-earliest
returns-clause-earliest g c = λ d h i y limit x a m k r. earliest_found d h i y limit x a m k r

pub returns-clause-enabler : goal.returns-clause-enabler
returns-clause-enabler g c = λ a r side ch n i k l p q. place_unique a r side ch n i k l p q
