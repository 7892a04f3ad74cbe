use Rattle.path_text.proofs.Followed.{path_back}
use Rattle.path_text.proofs.chain_laws.chains_go_back.Goals as goal

pub returns : goal.returns
returns c = path_back
