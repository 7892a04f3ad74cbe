use Rattle.std.proofs.Common.{ℕ, ◌<◌, ◌≤◌}
use Rattle.std.specs.Prelude.{◌↔◌}
use Rattle.flow_design.specs.declared.limits.TheConstants.{MODULES}
use Rattle.run_threads.specs.{IsNamed}
use Rattle.run_threads.proofs.threadless.Threadless.from_module.Given as goal

abbrev pub invariant-loop-which : goal.invariant-loop-which
invariant-loop-which l = (m : ℕ) → IsNamed l.threadless m ↔ ((l.first ≤ m) × (m < l.which) × (m < MODULES))
