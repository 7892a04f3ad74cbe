use Rattle.vcd_wave.proofs.Walking.{ArePassed}
use Rattle.vcd_wave.proofs.walk.pass_clock.Given as goal

abbrev pub invariant-loop-fifo : goal.invariant-loop-fifo
invariant-loop-fifo l = ArePassed l.core.plan l.clock l.fifo l.walks l.changes
