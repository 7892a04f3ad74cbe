use Rattle.serial_order.specs.{faults_of}
use Rattle.serial_order.proofs.Heads.{Nothing}
use Rattle.serial_order.proofs.check.fault_in.Given as goal

abbrev pub invariant-loop-number : goal.invariant-loop-number
invariant-loop-number l = Nothing (faults_of l.channels l.«module») l.«module».blocks l.number
