use Rattle.std.proofs.Common.{◌≡◌, false}
use Rattle.session_tests.specs.{waits, IsSomeRun}
use Rattle.session_tests.proofs.module_runs.told.Given as goal

abbrev pub invariant-loop-number : goal.invariant-loop-number
invariant-loop-number g l = IsSomeRun l.run × (waits l.run ≡ false)
