use Rattle.std.proofs.Common.{◌≡◌, ◌≤◌, ◌+◌, drop}
use Rattle.core_tests.specs.{others_in}
use Rattle.core_tests.proofs.ticks.count_others.Given as goal

abbrev pub invariant-loop-k : goal.invariant-loop-k
invariant-loop-k l = record {
  told : l.others + others_in (drop l.k l.old) (drop l.k l.new) ≡ others_in l.old l.new;
  few : l.others ≤ l.k;
}
