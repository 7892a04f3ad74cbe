-- How many modules use each channel at one side, where 2 stands for two or more.
use Rattle.std.specs.Prelude.{◌≡◌, ℕ, ◌+◌, ◌<◌, min, List, length, count_by, slice_index}
use Rattle.flow_word.specs.{Side}
use Rattle.flow_design.specs.{declared.design.Module.Module, uses, port_at}

-- two counts are equal, or both are two or more
abbrev pub AreAlike : ℕ → ℕ → Type 0
AreAlike a b = min a 2 ≡ min b 2

-- for each channel f, `more f` more users were counted
pub record AreCounted (more : ℕ → ℕ) (before after : List ℕ) : Type 0 where
  pub count : length after ≡ length before
  pub each : (c : ℕ) → c < length before → AreAlike (slice_index after c) (slice_index before c + more c)

-- a loop has counted some users; with those that are left they are all
pub record IsCounting (left all : ℕ → ℕ) (before now : List ℕ) : Type 0 where
  pub count : length now ≡ length before
  pub each : (c : ℕ) → c < length before → AreAlike (slice_index now c + left c) (slice_index before c + all c)

-- the list has for each channel how many of these modules use it at this side
pub record AreUserCounts (modules : List Module) (side : Side) (users : List ℕ) : Type 0 where
  pub each : (c : ℕ) → c < length users → AreAlike (slice_index users c) (count_by (uses (port_at side c)) modules)
