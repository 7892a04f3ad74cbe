use Rattle.fifo_table.proofs.Keeping.{push_count}
use Rattle.fifo_table.proofs.pushes.Pushes.len.Goals as goal

pub returns : goal.returns
returns c =
    rw (← c.self.view_is, push_count c.self.inside.places.items c.self.inside.values.items c.self.invariant) c.len.ensures
