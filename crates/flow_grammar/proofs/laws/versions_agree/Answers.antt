use Rattle.flow_grammar.proofs.VersionLaws.{versions_agree}
use Rattle.flow_grammar.proofs.laws.versions_agree.Goals as goal

pub returns : goal.returns
returns c = versions_agree
