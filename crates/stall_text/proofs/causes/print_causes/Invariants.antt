use Rattle.std.proofs.Common.{◌≡◌, ◌++◌}
use Rattle.stall_text.specs.{text_of_lines, at_each_side, causes_by}
use Rattle.stall_text.proofs.causes.print_causes.Given as goal

abbrev pub invariant-loop-number : goal.invariant-loop-number
invariant-loop-number l = l.text ≡ l.fn.text ++ text_of_lines (at_each_side l.number (causes_by l.design l.owner l.empty l.full))
