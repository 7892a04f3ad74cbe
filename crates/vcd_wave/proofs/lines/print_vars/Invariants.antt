use Rattle.vcd_wave.proofs.LineLemmas.{AreDeclared}
use Rattle.vcd_wave.proofs.lines.print_vars.Given as goal

abbrev pub invariant-loop-channel : goal.invariant-loop-channel
invariant-loop-channel l = AreDeclared l.channels l.fn.text l.text l.channel-index l.count
