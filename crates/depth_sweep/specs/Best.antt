-- The best of some points: done, of the least latency, then of the least sum of depths, then the first.
use Rattle.std.specs.Prelude.{◌≡◌, ℕ, ◌<◌, ◌≤◌, List, [], length, sum, slice_index_or}
use Rattle.flow_design.specs.declared.report.Verdict.TheVariants.{Done}
use Rattle.depth_sweep.specs.declared.point.Point.{Point}

-- the default where a place has no point
abbrev pub no_point : Point
no_point = record { depths = []; verdict = Done 0 }

-- the point at a place
abbrev pub point_at : List Point → ℕ → Point
point_at points place = slice_index_or points place no_point

-- there is a point at this place, it is done with this latency, and its depths have this sum
pub record IsDoneAt (points : List Point) (place latency total : ℕ) : Type 0 where
  pub within : place < length points
  pub verdict : (point_at points place).verdict ≡ Done latency
  pub depths : sum (point_at points place).depths ≡ total

-- the point at this place is the best
pub record IsBest (points : List Point) (place : ℕ) : Type 0 where
  pub latency : ℕ
  pub total : ℕ
  pub done : IsDoneAt points place latency total
  -- no point is done earlier
  pub fastest : (other l t : ℕ) → IsDoneAt points other l t → latency ≤ l
  -- of those done in the same clock, none has a lesser sum of depths
  pub smallest : (other t : ℕ) → IsDoneAt points other latency t → total ≤ t
  -- of those done in the same clock with the same sum, it is the first
  pub first : (other : ℕ) → IsDoneAt points other latency total → place ≤ other
