-- A ring of rows.
use Rattle.std.specs.Prelude.{ℕ, ◌+◌, ◌-◌, nat_lt, if◌then◌else◌, List, ◌++◌, take, drop}

-- `count` rows of a ring, from place `first` on, and from place 0 on after the last
abbrev pub window : ℕ → ℕ → List (List ℕ) → List (List ℕ)
window first count rows = take count (drop first rows ++ take first rows)

-- the place that lies `after` places after `first` in a ring of `len` places
abbrev pub ring_place : ℕ → ℕ → ℕ → ℕ
ring_place len first after = if nat_lt after (len - first) then first + after else after - (len - first)
