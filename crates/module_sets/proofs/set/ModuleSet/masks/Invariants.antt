use Rattle.module_sets.proofs.Words.{AreMasks}
use Rattle.module_sets.proofs.set.ModuleSet.masks.Given as goal

abbrev pub invariant-loop-word : goal.invariant-loop-word
invariant-loop-word l = AreMasks l.self l.word l.masks
