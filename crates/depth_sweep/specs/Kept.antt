-- The best of the first n points.
use Rattle.std.specs.Prelude.{ℕ, ◌<◌, ◌≤◌, List, Option, None, Some}
use Rattle.depth_sweep.specs.{Best.IsDoneAt, declared.ranking.Finish.Finish, declared.point.Point.Point}

-- what is kept is the best of the first n points
pub record IsBestOf (points : List Point) (n : ℕ) (kept : Finish) : Type 0 where
  pub within : kept.place < n
  pub done : IsDoneAt points kept.place kept.latency kept.total
  pub fastest : (other l t : ℕ) → other < n → IsDoneAt points other l t → kept.latency ≤ l
  pub smallest : (other t : ℕ) → other < n → IsDoneAt points other kept.latency t → kept.total ≤ t
  pub first : (other : ℕ) → other < n → IsDoneAt points other kept.latency kept.total → kept.place ≤ other

-- `Some` is the best of the first n points; with `None`, none of them is done
abbrev pub IsBestKept : List Point → ℕ → Option Finish → Type 0
IsBestKept points n None = (other l t : ℕ) → other < n → ¬ IsDoneAt points other l t
IsBestKept points n (Some kept) = IsBestOf points n kept
