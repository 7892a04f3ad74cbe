use Rattle.trace_text.proofs.Showing.{are_the_spans}
use Rattle.trace_text.proofs.laws.tracks_have_the_spans.Goals as goal

pub returns : goal.returns
returns c = are_the_spans
