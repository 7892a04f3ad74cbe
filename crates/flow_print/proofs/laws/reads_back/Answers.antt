use Rattle.flow_grammar.proofs.SessionLaws.{keeps_rules}
use Rattle.flow_print.proofs.ReadBack.{reads_back}
use Rattle.flow_print.proofs.laws.reads_back.Goals as goal

pub returns-clause-rules : goal.returns-clause-rules
returns-clause-rules c = reads_back

pub returns-clause-read : goal.returns-clause-read
returns-clause-read c = λ scale text s l p short. reads_back scale s (keeps_rules scale text s l p) short
