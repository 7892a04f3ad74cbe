use Rattle.module_interp.proofs.Sound.{few_queries}
use Rattle.module_interp.proofs.laws.queries_are_few.Goals as goal

pub returns : goal.returns
returns c = few_queries
