use Rattle.std.proofs.Common.{ℕ, ◌*◌, ◌<◌, ◌≤◌}
use Rattle.module_sets.specs.{Has}
use Rattle.module_sets.proofs.set.ModuleSet.first_after.Given as goal

abbrev pub invariant-loop-word : goal.invariant-loop-word
invariant-loop-word l = (n : ℕ) → 64 * l.first ≤ n → n < 64 * l.word → Has l.self n → ⊥
