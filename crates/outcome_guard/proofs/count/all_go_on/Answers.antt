use Rattle.std.proofs.Common.{◌∙◌, sym, arith}
use Rattle.outcome_guard.proofs.Kept.{go_on_after}
use Rattle.outcome_guard.proofs.count.all_go_on.Goals as goal

pub returns : goal.returns
returns c = sym (go_on_after c.args.kept.now c.args.found.now c.loop-at.at (omega arith)) ∙ c.loop-at.invariant
