use Rattle.std.proofs.Common.{◌∙◌, ◌++◌}
use Rattle.flow_word.specs.declared.access.Kind.TheVariants.{TryRead, TryWrite, Empty, Full}
use Rattle.stall_text.specs.{text_of_lines, all_queries, own_queries}
use Rattle.stall_text.proofs.Lines.{queries_more}
use Rattle.stall_text.proofs.queries.print_queries.Goals as goal

pub loop-number-preserved : goal.loop-number-preserved
loop-number-preserved c =
    let n = c.loop-number.number in
    let i = c.args.owner in
    let name = c.module_name-name.ensures in
    let channel = c.channel_name-channel.ensures in
    queries_more (all_queries c.args.design.now i c.args.all.now) n c.args.text.now c.loop-number.text
    c.print_own.new.text c.print_own-in-loop-number.new.text c.print_own-in-loop-number-2.new.text c.print_own-in-loop-number-3.new.text
    c.loop-number.invariant
    (c.in_ok-print_own.ensures
    ∙ (λ j. c.loop-number.text ++ text_of_lines (own_queries i (name j) TryRead (channel j) (c.queries_on-tryreads.ensures j))))
    (c.in_ok-print_own-2.ensures
    ∙ (λ j. c.print_own.new.text ++ text_of_lines (own_queries i (name j) TryWrite (channel j) (c.queries_on-trywrites.ensures j))))
    (c.in_ok-print_own-3.ensures
    ∙ (λ j. c.print_own-in-loop-number.new.text
    ++ text_of_lines (own_queries i (name j) Empty (channel j) (c.queries_on-empties.ensures j))))
    (c.in_ok-print_own-4.ensures
    ∙ (λ j. c.print_own-in-loop-number-2.new.text
    ++ text_of_lines (own_queries i (name j) Full (channel j) (c.queries_on-fulls.ensures j))))
