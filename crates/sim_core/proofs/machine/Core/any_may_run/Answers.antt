use Rattle.std.proofs.Common.{arith}
use Rattle.sim_core.proofs.machine.Core.any_may_run.Goals as goal

pub overflow_add-from : goal.overflow_add-from
overflow_add-from c =
    let few = c.agrees.ensures.fits.module_count in
    let below = c.in-Some.ensures.below in
    omega arith
