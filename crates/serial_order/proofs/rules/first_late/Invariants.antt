use Rattle.serial_order.specs.{writes_late}
use Rattle.serial_order.proofs.Heads.{NoneBefore}
use Rattle.serial_order.proofs.rules.first_late.Given as goal

abbrev pub invariant-loop-at : goal.invariant-loop-at
invariant-loop-at l = NoneBefore (writes_late l.ii l.again) l.ops l.at
