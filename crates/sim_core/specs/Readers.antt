-- The module that pops, or pushes, each channel.
use Rattle.std.specs.Prelude.{◌≡◌, ℕ, ◌+◌, ◌<◌, Bool, cond, ◌&&◌, nat_eq, List, length, drop, slice_index}
use Rattle.std.specs.List.{position_or_len}
use Rattle.flow_word.specs.{Side, declared.access.Side.TheVariants.Pop}
use Rattle.flow_design.specs.{declared.design.Module.Module, Plan, uses, port_at}
use Rattle.timing_bridge.specs.{design}

-- the list has the module at this side of each channel, or the number of modules where there is none
pub record AreUsers (p : Plan) (side : Side) (users : List ℕ) : Type 0 where
  pub count : length users ≡ length p.design.channels
  pub each : (c : ℕ) → c < length users → slice_index users c ≡ (design p).owner side c

abbrev pub AreReaders : Plan → List ℕ → Type 0
AreReaders p readers = AreUsers p Pop readers

-- the module is noted at these channels, wherever the list had `none` before
pub record AreNoted (none owner : ℕ) (at : ℕ → Bool) (before after : List ℕ) : Type 0 where
  pub count : length after ≡ length before
  pub each : (c : ℕ) → c < length before
      → slice_index after c ≡ cond (nat_eq (slice_index before c) none && at c) owner (slice_index before c)

-- a loop that notes the module has noted it at some channels; with those that are left it is noted at all
pub record IsNoting (none owner : ℕ) (left all : ℕ → Bool) (before now : List ℕ) : Type 0 where
  pub count : length now ≡ length before
  pub each : (c : ℕ) → c < length before
      → cond (nat_eq (slice_index now c) none && left c) owner (slice_index now c)
      ≡ cond (nat_eq (slice_index before c) none && all c) owner (slice_index before c)

-- a loop over the modules has noted the first user of each channel, as far as it has come
pub record IsSearching (side : Side) (modules : List Module) (none : ℕ) (now : List ℕ) (i : ℕ) : Type 0 where
  pub each : (c : ℕ) → c < length now
      → cond (nat_eq (slice_index now c) none) (i + position_or_len (uses (port_at side c)) (drop i modules)) (slice_index now c)
      ≡ position_or_len (uses (port_at side c)) modules
