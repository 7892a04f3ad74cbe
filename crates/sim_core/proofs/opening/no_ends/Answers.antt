use Rattle.std.proofs.Common.{◌∙◌, ap, List, [], ◌∷◌, ◌++◌, Option, None}
use Rattle.std.proofs.lemmas.List.{replicate-append-replicate}
use Rattle.sim_core.specs.{Advance}
use Rattle.sim_core.proofs.opening.no_ends.Goals as goal

pub loop-preserved : goal.loop-preserved
loop-preserved c = c.in_ok-push.ensures.items ∙ (ap (λ (ends : List (Option Advance)). ends ++ None ∷ []) c.loop.invariant
    ∙ replicate-append-replicate c.loop.counter 1 None)
