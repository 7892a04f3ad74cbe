use Rattle.std.proofs.Common.{◌≡◌, map, take}
use Rattle.core_tests.proofs.ticks.cycles_of.Given as goal

-- the cycles of the modules so far
abbrev pub invariant-loop-owner : goal.invariant-loop-owner
invariant-loop-owner l = map (λ v. v.items) l.all.items ≡ map (λ q. q.cycles) (take l.owner l.core.held.lanes)
