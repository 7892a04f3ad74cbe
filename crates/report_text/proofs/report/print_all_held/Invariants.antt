use Rattle.std.proofs.Common.{◌≡◌, ◌++◌, map, take}
use Rattle.report_text.specs.{text_of_lines, held_tokens}
use Rattle.report_text.proofs.report.print_all_held.Given as goal

abbrev pub invariant-loop-one : goal.invariant-loop-one
invariant-loop-one l = l.text ≡ l.fn.text ++ text_of_lines (map (held_tokens l.design) (take l.one-index l.held))
