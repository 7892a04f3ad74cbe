use Rattle.fifo_table.proofs.Keeping.{first_place}
use Rattle.fifo_table.proofs.places.Places.module.Goals as goal

pub returns-else-len-eq0 : goal.returns-else-len-eq0
returns-else-len-eq0 c =
    rw (← c.self.view_is) (first_place c.self.inside.module c.self.inside.steps.items (rw c.len.ensures at c.if-len-eq0.false))
