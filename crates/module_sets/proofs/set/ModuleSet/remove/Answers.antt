use Rattle.std.proofs.Common.{arith, ◌/◌}
use Rattle.module_sets.proofs.{Bits.one_at, Words.removed, Words.not_there, Words.read}
use Rattle.module_sets.proofs.set.ModuleSet.remove.Goals as goal

pub returns-then-word-len : goal.returns-then-word-len
returns-then-word-len c =
    let is = read c.self.inside.words.items (c.args.member / 64) c.index_mut.result.now (omega arith) c.index_mut.ensures.value in
    rw (← c.self.view_is, is) (removed c.self.inside.words.items c.args.member _ (one_at _ (omega arith)) (omega arith))

pub returns-else-word-len : goal.returns-else-word-len
returns-else-word-len c = rw (← c.self.view_is) (not_there c.self.inside.words.items c.args.member (omega arith))
