use Rattle.std.proofs.Common.{ℕ, List, drop, refl, sym, subst}
use Rattle.sim_core.specs.{Begins}
use Rattle.sim_core.proofs.unread.Unread.values_to_come.Goals as goal

pub returns-else-first-skipped : goal.returns-else-first-skipped
returns-else-first-skipped c = λ all is.
    subst (λ (xs : List ℕ). Begins (drop c.args.skipped all) xs) (sym c.new.ensures) (drop c.args.skipped all, refl)
