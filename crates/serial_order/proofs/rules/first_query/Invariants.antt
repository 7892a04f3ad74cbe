use Rattle.serial_order.specs.{is_query}
use Rattle.serial_order.proofs.Heads.{NoneBefore}
use Rattle.serial_order.proofs.rules.first_query.Given as goal

abbrev pub invariant-loop-at : goal.invariant-loop-at
invariant-loop-at l = NoneBefore (λ t. is_query t.op) l.ops l.at
