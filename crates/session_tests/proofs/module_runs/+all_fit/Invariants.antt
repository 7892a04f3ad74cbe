use Rattle.std.specs.Prelude.{length}
use Rattle.session_tests.proofs.module_runs.+all_fit.Given as goal

abbrev pub decreases-all_fit : goal.decreases-all_fit
decreases-all_fit l = length l.accesses.now
