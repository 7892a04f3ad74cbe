use Rattle.std.proofs.{Common.ℕ, Common.List, Common.sym, Common.subst, lemmas.List.length-replicate}
use Rattle.module_sets.specs.{Has}
use Rattle.module_sets.proofs.Words.{all_in}
use Rattle.module_sets.proofs.set.ModuleSet.fill.Goals as goal

pub returns-clause-full : goal.returns-clause-full
returns-clause-full c = λ n l.
    let is = c.fill.ensures.items (λ y e. e) in
    let inside = rw (is, length-replicate) at l in
    subst (λ (words : List ℕ). Has words n) (sym is) (all_in _ n inside)
