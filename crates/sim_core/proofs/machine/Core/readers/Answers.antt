use Rattle.std.proofs.Common.{sym, subst}
use Rattle.sim_core.specs.{AreReaders}
use Rattle.sim_core.proofs.machine.Core.readers.Goals as goal

pub returns : goal.returns
returns c =
    rw (← c.self.view_is) (subst (AreReaders c.self.inside.plan) (sym c.as_slice.ensures.value) c.self.invariant.wired.readers_are)
