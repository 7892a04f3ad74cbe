use Rattle.std.proofs.Common.{◌∙◌, arith}
use Rattle.sim_core.proofs.machine.Core.ports.Goals as goal

pub ports_of-requires : goal.ports_of-requires
ports_of-requires c =
    let a = rw (← c.self.view_is) at c.requires in let n = c.self.invariant.wired.ports_are.count in omega arith

pub returns : goal.returns
returns c =
    rw (← c.self.view_is)
    (c.ports_of.ensures ∙ c.self.invariant.wired.ports_are.each c.args.owner (rw (← c.self.view_is) at c.requires))
