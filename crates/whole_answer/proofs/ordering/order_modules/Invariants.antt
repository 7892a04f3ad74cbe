use Rattle.std.proofs.Common.{◌≡◌, map}
use Rattle.std.specs.List.{range_with_len}
use Rattle.whole_answer.specs.{text_of_lines, order_tokens}
use Rattle.whole_answer.proofs.ordering.order_modules.Given as goal

abbrev pub invariant-loop-module : goal.invariant-loop-module
invariant-loop-module l = l.text ≡ text_of_lines (map (order_tokens l.plan.design) (range_with_len 0 l.«module»))
