use Rattle.std.proofs.Common.{◌≡◌, ◌++◌, map, take}
use Rattle.vcd_wave.specs.{text_of_lines, change_of, change_tokens}
use Rattle.vcd_wave.proofs.lines.print_changes.Given as goal

abbrev pub invariant-loop-change : goal.invariant-loop-change
invariant-loop-change l = l.text ≡ l.fn.text ++ text_of_lines (map change_tokens (map change_of (take l.change-index l.changes)))
