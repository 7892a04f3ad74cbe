use Rattle.std.proofs.Common.{◌≡◌, ◌++◌, is_some}
use Rattle.std.specs.List.{flat_map, range_with_len}
use Rattle.stall_text.specs.{text_of_lines, module_lines}
use Rattle.stall_text.proofs.text.print_modules.Given as goal

abbrev pub invariant-loop-owner : goal.invariant-loop-owner
invariant-loop-owner l = l.text
    ≡ l.fn.text ++ text_of_lines (flat_map (module_lines (is_some l.polls) l.core.plan) (range_with_len 0 l.owner))
