use Rattle.std.proofs.Common.{◌≡◌, drop}
use Rattle.outcome_guard.specs.{all_go_on}
use Rattle.outcome_guard.proofs.count.all_go_on.Given as goal

abbrev pub invariant-loop-at : goal.invariant-loop-at
invariant-loop-at l = all_go_on (drop l.at l.kept) (drop l.at l.found) ≡ all_go_on l.kept l.found
