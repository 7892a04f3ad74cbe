use Rattle.std.proofs.Common.{◌≡◌, ◌++◌, take, drop}
use Rattle.outcome_guard.specs.{all_longer}
use Rattle.outcome_guard.proofs.count.keep_longer.Given as goal

abbrev pub invariant-loop-at : goal.invariant-loop-at
invariant-loop-at l = take l.at l.kept ++ all_longer (drop l.at l.kept) (drop l.at l.found) ≡ all_longer l.fn.kept l.fn.found
