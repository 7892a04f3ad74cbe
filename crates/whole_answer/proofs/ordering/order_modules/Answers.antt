use Rattle.std.proofs.Common.{◌≡◌, ◌∙◌, ap, arith, ℕ, List, ◌++◌, length, map}
use Rattle.std.specs.List.{range_with_len}
use Rattle.whole_answer.specs.{Design, line, text_of_lines, order_tokens, ordered, declared.ending.Ending.TheVariants.Done}
use Rattle.whole_answer.proofs.FurtherLines.{lines_more}
use Rattle.whole_answer.proofs.ordering.order_modules.Goals as goal

pub loop-module-preserved : goal.loop-module-preserved
loop-module-preserved c =
    lines_more (order_tokens c.args.plan.now.design) c.loop-module.«module» c.loop-module.text c.print_order.new.text
    c.loop-module.invariant (c.in_ok-print_order.ensures
    ∙ ap (λ (d : Design). c.loop-module.text ++ line (order_tokens d c.loop-module.«module»)) c.design-design.ensures)

pub returns : goal.returns
unfolding ordered
returns c =
    let design = c.args.plan.now.design in
    let all : c.loop-module.«module» ≡ length design.modules =
    omega (
      arith,
      c.loop-module.auto.module-end,
      ap length c.as_slice-module-end.ensures,
      ap (λ (d : Design). length d.modules) c.design-design.ensures,
    ) in
    ap (λ (text : List ℕ). record { text = text; ending = Done }) (c.loop-module.invariant
    ∙ ap (λ (n : ℕ). text_of_lines (map (order_tokens design) (range_with_len 0 n))) all)
