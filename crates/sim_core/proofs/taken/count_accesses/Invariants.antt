use Rattle.std.proofs.Common.{map, take}
use Rattle.sim_core.specs.{Port, takers, seen, AreAdded}
use Rattle.sim_core.proofs.taken.count_accesses.Given as goal

-- the accesses so far are counted
abbrev pub invariant-loop-access : goal.invariant-loop-access
invariant-loop-access l = AreAdded l.ports (λ (port : Port). takers port.side port.channel (map seen (take l.access-index l.accesses)))
    l.initial.taken l.taken
