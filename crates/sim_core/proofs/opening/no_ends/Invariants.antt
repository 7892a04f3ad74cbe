use Rattle.std.proofs.Common.{◌≡◌, None, replicate}
use Rattle.sim_core.proofs.opening.no_ends.Given as goal

abbrev pub invariant-loop : goal.invariant-loop
invariant-loop l = l.ends.items ≡ replicate l.counter None
