use Rattle.std.proofs.{Common.refl, Common.sym, Common.◌∙◌, lemmas.Grind.merely}
use mathlib.Core.Logic.{∥∥₁_map}
use Rattle.sim_hub.proofs.hub.ends.perf_pass.Goals as goal

pub invariant_of-place : goal.invariant_of-place
invariant_of-place c = record {
  numbered = c.requires.first.number;
  good = ∥∥₁_map c.requires.modules (λ (l, same). record { own = c.requires.first.own ∙ sym c.requires.fresh; legal = l });
}

pub invariant_of-result : goal.invariant_of-result
invariant_of-result c = record {
  first = refl;
  made = merely (record { made = c.requires.modules; joined = c.requires.first.joined });
}
