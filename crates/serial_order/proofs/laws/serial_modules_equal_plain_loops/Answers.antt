use Rattle.serial_order.proofs.Theorem.{equals_plain_loops, keeps_to_plain_loops}
use Rattle.serial_order.proofs.laws.serial_modules_equal_plain_loops.Goals as goal

pub returns-clause-ends : goal.returns-clause-ends
returns-clause-ends c = equals_plain_loops

pub returns-clause-goes : goal.returns-clause-goes
returns-clause-goes c = keeps_to_plain_loops
