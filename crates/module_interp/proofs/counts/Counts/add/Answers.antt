use Rattle.std.proofs.Common.{arith}
use Rattle.module_interp.proofs.counts.Counts.add.Goals as goal

pub add_at-requires-clause-there : goal.add_at-requires-clause-there
add_at-requires-clause-there c =
    let same = c.place-place.ensures in let there = c.requires.there in let one_each = c.requires.sound in omega arith
