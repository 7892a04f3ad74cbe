-- Depths raised from given ones, and needs just above given depths.
use Rattle.std.specs.Prelude.{◌≡◌, ℕ, ◌+◌, ◌^◌, ◌<◌, ◌≤◌, List, length, slice_index, All, Any}
use Rattle.flow_design.specs.declared.limits.TheConstants.{FIFO_DEPTH}
use Rattle.depth_cuts.specs.declared.cuts.Need.{Need}

-- `raised` is no less than `depth` and within the limit, and it is 0 where `depth` is 0
pub record IsRaised (depth raised : ℕ) : Type 0 where
  pub up : depth ≤ raised
  pub most : raised ≤ FIFO_DEPTH
  pub zero : depth ≡ 0 → raised ≡ 0

-- the lists are of one length, and each depth is raised
pub record AreRaised (depths raised : List ℕ) : Type 0 where
  pub count : length raised ≡ length depths
  pub few : length raised < 2 ^ 32
  pub each : (c : ℕ) → c < length depths → IsRaised (slice_index depths c) (slice_index raised c)

-- the need is for one more than the depth that its FIFO has, within the limit
pub record IsNextNeed (depths : List ℕ) (need : Need) : Type 0 where
  pub some : 0 < slice_index depths need.channel
  pub next : need.depth ≡ slice_index depths need.channel + 1
  pub most : need.depth ≤ FIFO_DEPTH

-- the needs are for one more element in each FIFO among the first n channels that can be deeper
pub record AreNext (depths : List ℕ) (n : ℕ) (needs : List Need) : Type 0 where
  pub each : All (IsNextNeed depths) needs
  pub all : (c : ℕ) → c < n → 0 < slice_index depths c → slice_index depths c < FIFO_DEPTH → Any (λ need. need.channel ≡ c) needs
