use Rattle.std.proofs.Common.{◌≡◌, ◌++◌, length}
use Rattle.clock_machine.specs.{values}
use Rattle.clock_machine.proofs.ending.drain.Given as goal

abbrev pub invariant-loop-element : goal.invariant-loop-element
invariant-loop-element l = l.words ++ values l.queue ≡ values l.initial.queue

abbrev pub decreases-loop-element : goal.decreases-loop-element
decreases-loop-element l = length l.queue
