-- What the tests count of an edit.
use Rattle.std.specs.Prelude.{◌≡◌, ℕ, ◌+◌, ◌⊎◌, List, [], ◌∷◌}
use Rattle.flow_design.specs.{Edit}
use Rattle.retime.specs.{IsEditFrom, cycles_in}
use Rattle.cycle_changes.specs.{others_in}
use Rattle.sim_core.specs.{kept_below, CoreView}

-- how many numbers differ in all, over lists that are compared place by place
abbrev pub others_of : List (List ℕ) → List (List ℕ) → ℕ
others_of [] new = 0
others_of (c ∷ old) [] = 0
others_of (c ∷ old) (d ∷ new) = others_in c d + others_of old new

-- the edit has set all cycles from the first touched clock on again, with one tick for each
pub record HasTickedFrom (old new : CoreView) (e : Edit) (before after : ℕ) : Type 0 where
  pub clock : ℕ
  pub from : IsEditFrom old.held.lanes old.held.channels e old.plan.cycles clock
  pub ticked : after + kept_below old clock ≡ before + cycles_in new.held.lanes

-- there is one tick for each of the `moved` steps with another cycle, or one for each cycle from the first touched clock on
abbrev pub HasTicked : CoreView → CoreView → Edit → ℕ → ℕ → ℕ → Type 0
HasTicked old new e before after moved = (after ≡ before + moved) ⊎ HasTickedFrom old new e before after
