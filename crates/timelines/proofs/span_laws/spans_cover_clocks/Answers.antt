use Rattle.timelines.proofs.Covering.{covered, begins_at_0, goes_on_from}
use Rattle.timelines.proofs.span_laws.spans_cover_clocks.Goals as goal

pub returns-clause-covered : goal.returns-clause-covered
returns-clause-covered c = covered

pub returns-clause-begins : goal.returns-clause-begins
returns-clause-begins c = begins_at_0

pub returns-clause-go_on : goal.returns-clause-go_on
returns-clause-go_on c = goes_on_from
