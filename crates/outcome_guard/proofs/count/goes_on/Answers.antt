use Rattle.outcome_guard.proofs.Kept.{tells_alike}
use Rattle.outcome_guard.proofs.count.goes_on.Goals as goal

pub returns : goal.returns
returns c = tells_alike c.one_is_prefix.result c.args.a.now c.args.b.now c.one_is_prefix.ensures
