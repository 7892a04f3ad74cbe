-- What is known of all depths with which a plan is done by a clock.
use Rattle.std.specs.Prelude.{◌≡◌, ℕ, ◌<◌, ◌≤◌, true, false, List, length, slice_index, All}
use Rattle.flow_design.specs.{declared.limits.TheConstants.FIFO_DEPTH, Plan, Verdict, is_fifo, kind_at}
use Rattle.lockstep_defs.specs.{verdict}
use Rattle.depth_order.specs.{with_depths, AreDepths, IsDoneBy}
use Rattle.depth_cuts.specs.{Cut, Demands, IsMet, IsNeedOf}
use Rattle.least_memory.specs.{Choices.widths_of, declared.trying.Outcome.Outcome}
use Rattle.least_memory.specs.declared.trying.Outcome.TheVariants.{Late, Ended}

-- no depths with which the plan is done by the clock have less than `floor` in channel f; it is 0 where f is no FIFO
pub record IsFloor (p : Plan) (clock f floor : ℕ) : Type 0 where
  pub least : is_fifo (kind_at p f) ≡ true → 1 ≤ floor
  pub most : is_fifo (kind_at p f) ≡ true → floor ≤ FIFO_DEPTH
  pub other : is_fifo (kind_at p f) ≡ false → floor ≡ 0
  pub needed : (es : List ℕ) → AreDepths p es → IsDoneBy clock (verdict (with_depths p es)) → floor ≤ slice_index es f

-- one floor for each channel
pub record AreFloorsOf (p : Plan) (clock : ℕ) (floors : List ℕ) : Type 0 where
  pub count : length floors ≡ length p.design.channels
  pub each : (f : ℕ) → f < length p.design.channels → IsFloor p clock f (slice_index floors f)

-- a cut of FIFOs that all depths meet with which the plan is done by the clock
pub record IsNeeded (p : Plan) (clock : ℕ) (cut : Cut) : Type 0 where
  pub needs : All (IsNeedOf p) cut.needs
  pub needed : (es : List ℕ) → AreDepths p es → IsDoneBy clock (verdict (with_depths p es)) → IsMet cut es

-- demands that all depths meet with which the plan is done by the clock, with the widths of the plan's channels
pub record AreNeeded (p : Plan) (clock : ℕ) (demands : Demands) : Type 0 where
  pub widths : demands.widths ≡ widths_of p.design.channels
  pub narrow : All (λ w. w ≤ 64) demands.widths
  pub floors : AreFloorsOf p clock demands.floors
  pub cuts : All (IsNeeded p clock) demands.cuts

-- with these depths the plan is done by the clock, and this is its verdict
pub record IsTimely (p : Plan) (clock : ℕ) (depths : List ℕ) (found : Verdict) : Type 0 where
  pub told : found ≡ verdict (with_depths p depths)
  pub done : IsDoneBy clock found

-- what trying the depths shows: a cut that is needed, or the verdict of a plan that is done by the clock
abbrev pub IsOutcome : Plan → ℕ → List ℕ → Outcome → Type 0
IsOutcome p clock depths (Late cut) = IsNeeded p clock cut
IsOutcome p clock depths (Ended found) = IsTimely p clock depths found
