use Rattle.std.specs.Prelude.{◌≤◌}
use Rattle.path_check.proofs.bounds.too_few.Given as goal

abbrev pub invariant-loop-pushed : goal.invariant-loop-pushed
invariant-loop-pushed l = l.popped ≤ l.pushed
