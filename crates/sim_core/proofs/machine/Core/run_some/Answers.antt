use Rattle.std.proofs.Common.{sym, ◌∙◌, arith}
use Rattle.sim_core.proofs.Stretching as stretching
use Rattle.sim_core.proofs.machine.Core.run_some.Goals as goal

pub returns-then-is_short-clause-no_memory : goal.returns-then-is_short-clause-no_memory
returns-then-is_short-clause-no_memory c = λ n. record {
  goes = stretching.ran_goes c.run_up_to-ran.ensures.ran n;
  permitted = c.run_up_to-ran.ensures.more (sym c.is_short.ensures ∙ c.if-is_short.true);
}

pub returns-clause-ran : goal.returns-clause-ran
returns-clause-ran c =
    stretching.ran_on c.run_up_to-ran.ensures.ran c.agrees.ensures.fits c.agrees.ensures.agreed (omega arith)
