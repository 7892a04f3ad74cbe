use Rattle.std.proofs.Common.{◌≡◌, ◌+◌, map, drop}
use Rattle.core_tests.specs.{others_of}
use Rattle.core_tests.proofs.ticks.count_moved.Given as goal

abbrev pub invariant-loop-k : goal.invariant-loop-k
invariant-loop-k g l =
    let old = map (λ v. v.items) l.old in
    let new = map (λ v. v.items) l.new in
    l.moved + others_of (drop l.k old) (drop l.k new) ≡ others_of old new
