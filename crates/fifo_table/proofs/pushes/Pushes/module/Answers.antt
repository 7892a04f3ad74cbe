use Rattle.fifo_table.proofs.Keeping.{push_places}
use Rattle.fifo_table.proofs.pushes.Pushes.module.Goals as goal

pub returns : goal.returns
returns c =
    rw (← c.self.view_is, push_places c.self.inside.places.items c.self.inside.values.items c.self.invariant) c.module.ensures
