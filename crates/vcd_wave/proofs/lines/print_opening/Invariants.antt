use Rattle.std.proofs.Common.{◌≡◌, ◌++◌, map}
use Rattle.vcd_wave.specs.{line, text_of_lines, time_tokens, change_tokens}
use Rattle.vcd_wave.proofs.LineLemmas.{zeros_to}
use Rattle.vcd_wave.proofs.lines.print_opening.Given as goal

abbrev pub invariant-loop-fifo : goal.invariant-loop-fifo
invariant-loop-fifo l = l.text ≡ (l.fn.text ++ line (time_tokens 0)) ++ text_of_lines (map change_tokens (zeros_to l.fifo))
