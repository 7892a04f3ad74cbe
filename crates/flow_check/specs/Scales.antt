-- Plans that keep the limits of a scale which checking tests, and those on which the limits of a run depend.
use Rattle.std.specs.Prelude.{ℕ, ◌*◌, ◌≤◌, All}
use Rattle.flow_design.specs.{Scale, Block, Plan, limits_at, BlockKind}
use Rattle.flow_design.specs.declared.design.BlockKind.TheVariants.{Plain, Loop}

-- at most as many iterations of a loop are live at once as the scale allows
abbrev pub HasFewLive : Scale → ℕ → BlockKind → Type 0
HasFewLive scale len Plain = Unit {0}
HasFewLive scale len (Loop ii again) = len ≤ (limits_at scale).live_iterations * ii

pub record IsBlockWithin (scale : Scale) (b : Block) : Type 0 where
  pub clocks : b.len ≤ (limits_at scale).block_clocks
  pub live : HasFewLive scale b.len b.kind

-- the operation limit and the blocks of the plan are within the limits of the scale
pub record KeepsScale (scale : Scale) (plan : Plan) : Type 0 where
  pub operations : plan.ops ≤ (limits_at scale).counted_operations
  pub blocks : All (λ m. All (IsBlockWithin scale) m.blocks) plan.design.modules
