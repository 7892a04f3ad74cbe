use Rattle.std.proofs.Common.{arith}
use Rattle.module_sets.proofs.{Bits.one_at, Words.added}
use Rattle.module_sets.proofs.set.ModuleSet.add.Goals as goal

pub returns : goal.returns
returns c = added c.args.self.now c.add_mask.new.self c.args.member _ (one_at _ (omega arith)) c.add_mask.ensures
