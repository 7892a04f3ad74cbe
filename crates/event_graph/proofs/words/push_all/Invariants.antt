use Rattle.std.proofs.Common.{◌≡◌, ◌+◌, ◌*◌, ◌≤◌, ◌++◌, take}
use Rattle.event_graph.specs.{packed}
use Rattle.event_graph.proofs.words.push_all.Given as goal

-- the words so far were added
abbrev pub invariant-loop-access : goal.invariant-loop-access
invariant-loop-access l = record {
  items : l.words.items ≡ l.fn.words.items ++ packed (take l.access-index l.accesses);
  room : l.fn.words.room ≤ l.words.room + 3 * l.access-index;
}
