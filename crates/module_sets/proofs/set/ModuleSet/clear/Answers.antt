use Rattle.std.proofs.Common.{ℕ, List, subst}
use Rattle.module_sets.specs.{Has}
use Rattle.module_sets.proofs.Words.{none_in}
use Rattle.module_sets.proofs.set.ModuleSet.clear.Goals as goal

pub returns-clause-empty : goal.returns-clause-empty
returns-clause-empty c = λ n h.
    none_in _ n (subst (λ (words : List ℕ). Has words n) (c.fill.ensures.items (λ y e. e)) h)
