use Rattle.std.proofs.Common.{◌≡◌, map, take}
use Rattle.event_graph.specs.{access_slot}
use Rattle.event_graph.proofs.words.are_all_slots_of.Given as goal

-- the slots so far are those of the accesses
abbrev pub invariant-loop-at : goal.invariant-loop-at
invariant-loop-at l = take l.at l.slots ≡ map access_slot (take l.at l.accesses)
