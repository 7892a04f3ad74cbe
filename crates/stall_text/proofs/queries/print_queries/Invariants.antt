use Rattle.std.proofs.Common.{◌≡◌, ◌++◌}
use Rattle.stall_text.specs.{text_of_lines, at_each_query, all_queries}
use Rattle.stall_text.proofs.queries.print_queries.Given as goal

abbrev pub invariant-loop-number : goal.invariant-loop-number
invariant-loop-number l = l.text ≡ l.fn.text ++ text_of_lines (at_each_query l.number (all_queries l.design l.owner l.all))
