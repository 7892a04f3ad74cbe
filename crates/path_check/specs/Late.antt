-- Depths with which a plan ends late.
use Rattle.std.specs.Prelude.{ℕ, ◌<◌, ◌≤◌}
use Rattle.flow_design.specs.{declared.limits.TheConstants.FIFO_DEPTH, Plan, with_depth}
use Rattle.lockstep_defs.specs.{verdict}
use Rattle.depth_order.specs.{IsDoneBy}

-- with any depth of FIFO f that the language allows and that is below this one, the plan is not done by the clock
abbrev pub IsLateBelow : Plan → ℕ → ℕ → ℕ → Type 0
IsLateBelow p clock f depth = (d : ℕ) → 1 ≤ d → d ≤ FIFO_DEPTH → d < depth → IsDoneBy clock (verdict (with_depth p f d)) → ⊥
