use Rattle.module_sets.proofs.Words.{joined_more}
use Rattle.module_sets.proofs.set.ModuleSet.add_masks.Goals as goal

pub loop-mask-preserved : goal.loop-mask-preserved
loop-mask-preserved c =
    joined_more c.args.self.now c.loop-mask.self c.add_mask.new.self c.args.masks.now c.loop-mask.mask-index _ c.loop-mask-test.true
    c.loop-mask.invariant c.add_mask.ensures
