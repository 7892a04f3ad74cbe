use Rattle.std.proofs.Common.{◌∙◌, ap, ℕ, List, ◌++◌, slice_index}
use Rattle.path_text.specs.{text_of_lines, module_name, spend_lines}
use Rattle.report_text.proofs.LineLemmas.{numbers_more}
use Rattle.path_text.proofs.lines.print_modules.Goals as goal

pub loop-number-preserved : goal.loop-number-preserved
loop-number-preserved c =
    let n = c.loop-number.number in
    let design = c.args.design.now in
    numbers_more (λ m. spend_lines (module_name design m) (slice_index c.args.clocks.now m)) n c.args.text.now c.loop-number.text
    c.print_spent.new.text c.loop-number.invariant
    (c.in_ok-print_spent.ensures
    ∙ ap (λ (name : List ℕ). c.loop-number.text ++ text_of_lines (spend_lines name (slice_index c.args.clocks.now n)))
    c.module_name.ensures)
