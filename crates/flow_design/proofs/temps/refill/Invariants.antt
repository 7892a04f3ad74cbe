use Rattle.std.proofs.Common.{◌≡◌, replicate}
use Rattle.flow_design.proofs.temps.refill.Given as goal

abbrev pub invariant-loop : goal.invariant-loop
invariant-loop l = l.words ≡ replicate l.counter 0
