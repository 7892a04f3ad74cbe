use Rattle.vcd_wave.proofs.Walking.{walk_idle}
use Rattle.vcd_wave.proofs.walk.pass_fifo.Goals as goal

pub returns-then-next-clock-clause-changed : goal.returns-then-next-clock-clause-changed
returns-then-next-clock-clause-changed c =
    (walk_idle c.args.core.now.plan c.agrees.ensures.fits c.args.clock c.args.walk.now c.next.result c.requires.walk c.requires.within
    c.next.ensures c.if-next-clock.true).1
