use Rattle.std.proofs.Common.{◌≡◌, ◌++◌, slice_index}
use Rattle.std.specs.List.{flat_map, range_with_len}
use Rattle.path_text.specs.{text_of_lines, module_name, spend_lines}
use Rattle.path_text.proofs.lines.print_modules.Given as goal

abbrev pub invariant-loop-number : goal.invariant-loop-number
invariant-loop-number l =
    l.text ≡ l.fn.text
    ++ text_of_lines (flat_map (λ m. spend_lines (module_name l.design m) (slice_index l.clocks m)) (range_with_len 0 l.number))
