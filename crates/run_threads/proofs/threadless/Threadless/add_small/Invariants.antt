use Rattle.std.proofs.Common.{ℕ}
use Rattle.run_threads.specs.{IsNamed}
use Rattle.run_threads.proofs.threadless.Threadless.add_small.Given as goal

abbrev pub invariant-loop-size : goal.invariant-loop-size
invariant-loop-size l = (m : ℕ) → IsNamed l.fn.self m → IsNamed l.self m
