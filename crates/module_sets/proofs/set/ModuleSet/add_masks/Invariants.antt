use Rattle.std.proofs.Common.{take}
use Rattle.module_sets.specs.{IsJoined}
use Rattle.module_sets.proofs.set.ModuleSet.add_masks.Given as goal

abbrev pub invariant-loop-mask : goal.invariant-loop-mask
invariant-loop-mask l = IsJoined l.initial.self (take l.mask-index l.masks) l.self
