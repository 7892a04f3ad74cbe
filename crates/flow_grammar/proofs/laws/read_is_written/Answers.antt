use Rattle.flow_grammar.proofs.SpellingLaws.{read_is_written}
use Rattle.flow_grammar.proofs.laws.read_is_written.Goals as goal

pub returns : goal.returns
returns c = read_is_written
