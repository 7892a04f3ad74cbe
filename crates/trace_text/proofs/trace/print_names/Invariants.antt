use Rattle.std.proofs.Common.{◌≡◌, ◌++◌, map}
use Rattle.std.specs.List.{range_with_len}
use Rattle.trace_text.specs.{module_name, name_event, joined_lines}
use Rattle.trace_text.proofs.trace.print_names.Given as goal

abbrev pub invariant-loop-number : goal.invariant-loop-number
invariant-loop-number l =
    l.text ≡ l.fn.text ++ joined_lines (map (λ i. name_event i (module_name l.design i)) (range_with_len 0 l.number))
