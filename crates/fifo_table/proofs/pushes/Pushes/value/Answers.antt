use Rattle.fifo_table.proofs.Keeping.{push_values}
use Rattle.fifo_table.proofs.pushes.Pushes.value.Goals as goal

pub returns : goal.returns
returns c =
    rw (← c.self.view_is, push_values c.self.inside.places.items c.self.inside.values.items c.self.invariant, ← c.as_slice.ensures)
    c.nth.ensures
