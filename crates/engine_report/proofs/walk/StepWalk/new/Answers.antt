use Rattle.std.proofs.Common.{◌∙◌, ap, refl, replicate}
use Rattle.engine_report.proofs.Giving.{walk_new}
use Rattle.engine_report.proofs.walk.StepWalk.new.Goals as goal

pub returns-clause-walk : goal.returns-clause-walk
returns-clause-walk c =
    (walk_new c.args.graph.now.lanes _ (c.in_ok-zeros.ensures ∙ ap (λ n. replicate n 0) c.modules.ensures.count)
    c.in_ok-first_cycles.ensures refl refl refl).0

pub returns-clause-given : goal.returns-clause-given
returns-clause-given c =
    (walk_new c.args.graph.now.lanes _ (c.in_ok-zeros.ensures ∙ ap (λ n. replicate n 0) c.modules.ensures.count)
    c.in_ok-first_cycles.ensures refl refl refl).1
