use Rattle.std.proofs.Common.{◌≡◌, [], replicate}
use Rattle.clock_machine.proofs.opening.no_answers.Given as goal

abbrev pub invariant-loop : goal.invariant-loop
invariant-loop l = l.answers ≡ replicate l.counter []
