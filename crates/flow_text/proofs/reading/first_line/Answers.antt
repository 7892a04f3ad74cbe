use Rattle.flow_grammar.proofs.TokenLemmas.{one_line, first_of_lines}
use Rattle.flow_text.proofs.reading.first_line.Goals as goal

pub returns-in-None-clause-lines : goal.returns-in-None-clause-lines
returns-in-None-clause-lines c = one_line c.args.text.now (cc)

pub returns-in-Some-clause-lines : goal.returns-in-Some-clause-lines
returns-in-Some-clause-lines c = (let e = first_of_lines c.args.text.now c.in-Some.at (cc) in cc)
