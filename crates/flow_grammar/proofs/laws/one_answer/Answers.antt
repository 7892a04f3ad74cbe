use Rattle.flow_grammar.proofs.TextLaws.{some_answer, same_answer}
use Rattle.flow_grammar.proofs.laws.one_answer.Goals as goal

pub returns-clause-some : goal.returns-clause-some
returns-clause-some c = some_answer

pub returns-clause-no_other : goal.returns-clause-no_other
returns-clause-no_other c = same_answer
