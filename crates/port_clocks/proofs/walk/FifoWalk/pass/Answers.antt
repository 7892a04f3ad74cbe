use Rattle.std.proofs.Common.{◌<◌, sym, subst, ℕ}
use Rattle.port_clocks.specs.{last_clock}
use Rattle.port_clocks.proofs.Walking.{pops_stand, pushes_stand}
use Rattle.port_clocks.proofs.walk.FifoWalk.pass.Goals as goal

pub pass_port-self-requires-clause-stands : goal.pass_port-self-requires-clause-stands
pass_port-self-requires-clause-stands c =
    let p = c.args.core.now.plan in
    rw c.port_of.ensures (pops_stand p c.agrees.ensures.fits c.args.self.now c.requires.walk c.next-clock.result c.next-clock.ensures
    (subst (λ (n : ℕ). n < last_clock p) (sym c.next-clock.ensures) c.requires.more))

pub pass_port-self-requires-2-clause-stands : goal.pass_port-self-requires-2-clause-stands
pass_port-self-requires-2-clause-stands c =
    let p = c.args.core.now.plan in
    rw c.port_of-2.ensures (pushes_stand p c.agrees.ensures.fits c.args.self.now c.requires.walk c.next-clock.result c.next-clock.ensures
    (subst (λ (n : ℕ). n < last_clock p) (sym c.next-clock.ensures) c.requires.more))
