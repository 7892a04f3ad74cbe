use Rattle.serial_order.specs.{query_orders}
use Rattle.serial_order.proofs.Heads.{Nothing}
use Rattle.serial_order.proofs.check.query_of.Given as goal

abbrev pub invariant-loop-number : goal.invariant-loop-number
invariant-loop-number l = Nothing query_orders l.blocks l.number
