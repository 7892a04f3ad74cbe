use Rattle.std.proofs.Common.{ℕ, ap, ◌∙◌, Option}
use Rattle.std.specs.Prelude.{unwrap_or}
use Rattle.cycle_changes.specs.{lane_at}
use Rattle.cycle_changes.proofs.HeldSteps.{before_is}
use Rattle.cycle_changes.proofs.looking.cycle_before.Goals as goal

pub returns-in-Some-clause-cycle : goal.returns-in-Some-clause-cycle
returns-in-Some-clause-cycle c =
    c.unwrap_or.ensures ∙ (ap (λ (o : Option ℕ). unwrap_or o 0) c.cycle_of.ensures.cycle
    ∙ before_is (lane_at c.args.graph.now.lanes c.args.at.module) c.args.at.step c.in-Some.step c.in-Some.ensures.0 c.in-Some.ensures.1)
