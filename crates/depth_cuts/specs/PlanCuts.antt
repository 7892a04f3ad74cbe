-- Cuts of a plan: all depths with which the plan ends by a clock meet them.
use Rattle.std.specs.Prelude.{◌≡◌, ℕ, ◌≤◌, true, List, slice_index, All}
use Rattle.flow_design.specs.{declared.limits.TheConstants.FIFO_DEPTH, Plan, is_fifo, kind_at}
use Rattle.lockstep_defs.specs.{verdict}
use Rattle.depth_order.specs.{with_depths, AreDepths, IsDoneBy}
use Rattle.depth_cuts.specs.{declared.cuts.Need.Need, declared.cuts.Cut.Cut, Met.IsMet, Met.IsUnmet}

-- each FIFO of the plan is as deep as the language allows
abbrev pub AreDeepest : Plan → Type 0
AreDeepest p = (f : ℕ) → is_fifo (kind_at p f) ≡ true → slice_index p.depths f ≡ FIFO_DEPTH

-- the need is of a FIFO of the plan, and its depth is more than 1 and within the language's limit
pub record IsNeedOf (p : Plan) (need : Need) : Type 0 where
  pub fifo : is_fifo (kind_at p need.channel) ≡ true
  pub least : 2 ≤ need.depth
  pub most : need.depth ≤ FIFO_DEPTH

-- these depths do not meet the cut, but all depths do with which the plan is done by the clock
pub record IsCutFor (p : Plan) (clock : ℕ) (depths : List ℕ) (cut : Cut) : Type 0 where
  pub unmet : IsUnmet cut depths
  pub needs : All (IsNeedOf p) cut.needs
  pub needed : (es : List ℕ) → AreDepths p es → IsDoneBy clock (verdict (with_depths p es)) → IsMet cut es
