use Rattle.std.proofs.Common.{◌≡◌, ◌+◌, ◌≤◌, ◌++◌, map, take}
use Rattle.event_graph.specs.{access_slot}
use Rattle.event_graph.proofs.words.push_slots.Given as goal

-- the slots so far were added
abbrev pub invariant-loop-access : goal.invariant-loop-access
invariant-loop-access l = record {
  items : l.slots.items ≡ l.fn.slots.items ++ map access_slot (take l.access-index l.accesses);
  room : l.fn.slots.room ≤ l.slots.room + l.access-index;
}
