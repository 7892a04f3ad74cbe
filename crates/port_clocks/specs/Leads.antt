-- Two lists of clocks, and by how many one is ahead of the other.
use Rattle.std.specs.Prelude.{ℕ, ◌+◌, ◌-◌, ◌<◌, ◌≤◌, nat_lt, nat_le, Bool, List, map, max, fold, count_by, All, AllPairs}
use Rattle.std.specs.List.{range_with_len}

-- how many of these clocks are before clock c
abbrev pub before : List ℕ → ℕ → ℕ
before xs c = count_by (λ x. nat_lt x c) xs

-- the first list is ahead of the second by at least `margin` in clock c: at least that many more of its clocks are before c
abbrev pub is_ahead : ℕ → List ℕ → List ℕ → ℕ → Bool
is_ahead margin xs ys c = nat_le (before ys c + margin) (before xs c)

-- in how many clocks below this one the first list is ahead of the second by at least `margin`
unfoldable pub ahead_clocks : ℕ → List ℕ → List ℕ → ℕ → ℕ
ahead_clocks margin xs ys clock = count_by (is_ahead margin xs ys) (range_with_len 0 clock)

-- by how many the first list is ahead of the second at most, in the clocks up to this one
unfoldable pub most_ahead : List ℕ → List ℕ → ℕ → ℕ
most_ahead xs ys clock = fold max 0 (map (λ c. before xs c - before ys c) (range_with_len 0 (clock + 1)))

-- these are clocks below `end`, in order
pub record AreClocks (end : ℕ) (clocks : List ℕ) : Type 0 where
  pub rise : AllPairs (λ a b. a ≤ b) clocks
  pub below : All (λ c. c < end) clocks
