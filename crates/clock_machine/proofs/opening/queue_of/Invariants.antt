use Rattle.std.proofs.Common.{◌≡◌, map, take}
use Rattle.clock_machine.specs.{cut_to, element_from}
use Rattle.clock_machine.proofs.opening.queue_of.Given as goal

abbrev pub invariant-loop-value : goal.invariant-loop-value
invariant-loop-value l = l.queue ≡ map (λ v. element_from 0 (cut_to l.width v)) (take l.value-index l.values)
