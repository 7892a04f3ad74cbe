use Rattle.std.proofs.Common.{◌∙◌, sym, arith}
use Rattle.outcome_guard.proofs.Kept.{longer_after}
use Rattle.outcome_guard.proofs.count.keep_longer.Goals as goal

pub returns : goal.returns
returns c = sym (longer_after c.loop-at.kept c.loop-at.found c.loop-at.at (omega arith)) ∙ c.loop-at.invariant
