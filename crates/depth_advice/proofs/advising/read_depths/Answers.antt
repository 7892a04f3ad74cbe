use Rattle.std.proofs.Common.{◌∙◌}
use Rattle.depth_advice.proofs.Finding.{verdict_told}
use Rattle.depth_advice.proofs.advising.read_depths.Goals as goal

pub returns-clause-verdict : goal.returns-clause-verdict
returns-clause-verdict c = c.verdict.ensures ∙ verdict_told c.args.core.now.plan
