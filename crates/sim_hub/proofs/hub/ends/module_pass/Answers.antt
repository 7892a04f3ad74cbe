use Rattle.std.proofs.Common.{refl}
use mathlib.Core.Logic.{∥∥₁_map}
use Rattle.sim_hub.proofs.hub.ends.module_pass.Goals as goal

pub invariant_of-place : goal.invariant_of-place
invariant_of-place c = record {
  numbered = c.requires.number;
  good = ∥∥₁_map c.requires.within (λ (l, inside). record { own = c.requires.own; legal = l });
}

pub invariant_of-result : goal.invariant_of-result
invariant_of-result c = record { is = refl; within = c.requires.within }
