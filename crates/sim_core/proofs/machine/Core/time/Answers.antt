use Rattle.std.proofs.Common.{arith}
use Rattle.sim_core.proofs.Timed as timed
use Rattle.sim_core.proofs.Turning as turning
use Rattle.sim_core.proofs.machine.Core.time.Goals as goal

pub time_first-timing-requires : goal.time_first-timing-requires
time_first-timing-requires g c =
    let k = c.self.invariant.core in
    let owner = rw (← c.self.view_is) at c.requires.owner in
    let lanes = k.sound.lanes in
    record { owner = omega arith; limit = k.fits.cycles; core = turning.some_core k }

pub invariant_of-self : goal.invariant_of-self
invariant_of-self g c =
    timed.stored c.self.invariant c.args.owner (rw (← c.self.view_is) at c.requires.owner) c.time_first-timing.new.self
    c.time_first-timing.result c.time_first-timing.ensures.done c.time_first-timing.ensures.room c.time_first-timing.ensures.kinds
    c.time_first-timing.ensures.less
    (record { asking = c.ask_after.new.asking; running = c.wake_after.new.running; unlisted = c.ask_after.new.unlisted })
    c.ask_after.ensures.room c.ask_after.ensures.others c.ask_after.ensures.own c.ask_after.ensures.acted
    (rw c.beside-beside.ensures at c.ask_after.ensures.beside) (rw c.beside-beside.ensures at c.wake_after.ensures)
    c.ask_after.ensures.unlisted_room c.ask_after.ensures.listed

pub beside-beside-requires : goal.beside-beside-requires
beside-beside-requires g c =
    let owner = rw (← c.self.view_is) at c.requires.owner in let n = c.self.invariant.wired.beside_are.count in omega arith

pub returns-clause-done : goal.returns-clause-done
returns-clause-done g c =
    rw (← c.self.view_is) (timed.turned c.self.invariant c.args.owner (rw (← c.self.view_is) at c.requires.owner)
    c.time_first-timing.new.self c.time_first-timing.result c.time_first-timing.ensures.done c.time_first-timing.ensures.room
    c.time_first-timing.ensures.kinds c.time_first-timing.ensures.less)
