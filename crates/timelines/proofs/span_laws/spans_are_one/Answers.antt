use Rattle.timelines.proofs.{Existing.are_spans, Extending.only_spans}
use Rattle.timelines.proofs.span_laws.spans_are_one.Goals as goal

pub returns-clause-there : goal.returns-clause-there
returns-clause-there c = are_spans

pub returns-clause-only : goal.returns-clause-only
returns-clause-only c = only_spans
