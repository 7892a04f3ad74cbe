use Rattle.flow_grammar.proofs.SessionLaws.{keeps_rules, numbered, rising}
use Rattle.flow_grammar.proofs.laws.keeps_rules.Goals as goal

pub returns-clause-rules : goal.returns-clause-rules
returns-clause-rules c = keeps_rules

pub returns-clause-numbered : goal.returns-clause-numbered
returns-clause-numbered c = numbered

pub returns-clause-rising : goal.returns-clause-rising
returns-clause-rising c = rising
