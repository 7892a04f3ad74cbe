use Rattle.std.proofs.Common.{arith}
use Rattle.module_sets.proofs.Words.{joined, no_room, read}
use Rattle.module_sets.proofs.set.ModuleSet.add_mask.Goals as goal

pub returns-then-word-len : goal.returns-then-word-len
returns-then-word-len c =
    let is = read c.self.inside.words.items c.args.mask.word c.index_mut.result.now (omega arith) c.index_mut.ensures.value in
    rw (← c.self.view_is, is) (joined c.self.inside.words.items c.args.mask (omega arith))

pub returns-else-word-len : goal.returns-else-word-len
returns-else-word-len c = rw (← c.self.view_is) (no_room c.self.inside.words.items c.args.mask (omega arith))
