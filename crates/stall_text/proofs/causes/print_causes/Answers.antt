use Rattle.std.proofs.Common.{◌∙◌, ap₂, List, ℕ, ◌++◌, get_or}
use Rattle.flow_word.specs.declared.access.Side.TheVariants.{Pop, Push}
use Rattle.stall_text.specs.{text_of_lines, cause_lines, causes_by}
use Rattle.stall_text.proofs.Lines.{sides_more}
use Rattle.stall_text.proofs.causes.print_causes.Goals as goal

pub loop-number-preserved : goal.loop-number-preserved
loop-number-preserved c =
    let n = c.loop-number.number in
    sides_more (causes_by c.args.design.now c.args.owner c.args.empty.now c.args.full.now) n c.args.text.now c.loop-number.text
    c.print_cause.new.text c.print_cause-in-loop-number.new.text c.loop-number.invariant
    (c.in_ok-print_cause.ensures
    ∙ ap₂ (λ (name channel : List ℕ). c.loop-number.text ++ text_of_lines (cause_lines name channel Pop (get_or c.args.empty.now n 0)))
    c.module_name-name.ensures c.channel_name-channel.ensures)
    (c.in_ok-print_cause-2.ensures
    ∙ ap₂ (λ (name channel : List ℕ). c.print_cause.new.text ++ text_of_lines (cause_lines name channel Push (get_or c.args.full.now n 0)))
    c.module_name-name.ensures c.channel_name-channel.ensures)
