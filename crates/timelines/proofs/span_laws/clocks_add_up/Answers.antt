use Rattle.timelines.proofs.{Existing.counted_spans, Adding.over_from, Adding.causes_add_up}
use Rattle.timelines.proofs.span_laws.clocks_add_up.Goals as goal

pub returns-clause-spans : goal.returns-clause-spans
returns-clause-spans c = counted_spans

pub returns-clause-over : goal.returns-clause-over
returns-clause-over c = over_from

pub returns-clause-causes : goal.returns-clause-causes
returns-clause-causes c = causes_add_up
