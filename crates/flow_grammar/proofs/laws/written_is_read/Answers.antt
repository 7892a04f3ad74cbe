use Rattle.flow_grammar.proofs.SpellingLaws.{written_is_read}
use Rattle.flow_grammar.proofs.laws.written_is_read.Goals as goal

pub returns : goal.returns
returns c = written_is_read
