use Rattle.std.proofs.Common.{◌∙◌, ap, ℕ, List, ◌++◌, slice_index}
use Rattle.flow_word.specs.declared.access.Side.TheVariants.{Pop, Push}
use Rattle.path_text.specs.{text_of_lines, channel_name, at_sides, cross_lines, lines_at, polled_lines}
use Rattle.path_text.proofs.Printed.{two_groups}
use Rattle.report_text.proofs.LineLemmas.{numbers_more}
use Rattle.path_text.proofs.lines.print_channels.Goals as goal

pub loop-number-preserved : goal.loop-number-preserved
loop-number-preserved c =
    let n = c.loop-number.number in
    let design = c.args.design.now in
    let popped = c.args.popped.now in
    let pushed = c.args.pushed.now in
    let polled = slice_index c.args.polled.now in
    let waited = slice_index c.args.waited.now in
    let text = c.loop-number.text in
    let name = c.channel_name-name.result.now in
    let crossed = cross_lines Pop name (slice_index popped n) ++ cross_lines Push name (slice_index pushed n) in
    numbers_more (λ f. lines_at (channel_name design f) (λ side. at_sides popped pushed side f) (polled f) (waited f)) n
    c.args.text.now text c.print_polled.new.text c.loop-number.invariant
    (two_groups text c.print_crossed-in-loop-number.new.text c.print_polled.new.text crossed (polled_lines name (polled n) (waited n))
    (two_groups text c.print_crossed.new.text c.print_crossed-in-loop-number.new.text (cross_lines Pop name (slice_index popped n))
    (cross_lines Push name (slice_index pushed n)) c.in_ok-print_crossed.ensures c.in_ok-print_crossed-2.ensures)
    c.in_ok-print_polled.ensures
    ∙ ap (λ (word : List ℕ). text ++ text_of_lines (lines_at word (λ side. at_sides popped pushed side n) (polled n) (waited n)))
    c.channel_name-name.ensures)
