use Rattle.std.proofs.Common.{sym}
use Rattle.event_graph.proofs.Listed.{accesses_count}
use Rattle.event_graph.proofs.view.LaneAccesses.len.Goals as goal

pub returns-in-Packed : goal.returns-in-Packed
returns-in-Packed c = rw (← c.self.view_is, c.in-Packed.is) (sym (accesses_count c.in-Packed.slots.now c.in-Packed.words.now))
