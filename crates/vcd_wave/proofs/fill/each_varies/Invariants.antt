use Rattle.std.proofs.Common.{ℕ, ◌<◌}
use Rattle.vcd_wave.specs.{LeadsFor}
use Rattle.vcd_wave.proofs.fill.each_varies.Given as goal

abbrev pub invariant-loop-fifo : goal.invariant-loop-fifo
invariant-loop-fifo l = (fifo : ℕ) → fifo < l.fifo → LeadsFor l.asked fifo l.text
