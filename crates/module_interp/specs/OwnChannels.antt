-- The channels of a module, in order.
use Rattle.std.specs.Prelude.{ℕ, ◌≡◌, ◌<◌, nat_eq, List, length, slice_index, Contains, IfSome}
use Rattle.std.specs.List.{position_or_len}
use Rattle.flow_word.specs.{Side}
use Rattle.flow_design.specs.{Op, used_port}

-- the place of a channel in a list, or the length of the list where the channel is not there
abbrev pub place_in : List ℕ → ℕ → ℕ
place_in channels f = position_or_len (nat_eq f) channels

-- where the channel is one of the list, it stands at this place
abbrev pub IsPlaceOf : List ℕ → ℕ → ℕ → Type 0
IsPlaceOf channels f place = (k : ℕ) → k < length channels → slice_index channels k ≡ f → place ≡ k

-- the channel that an operation pops, or pushes, is one of the list
abbrev pub IsGathered : Side → List ℕ → Op ℕ → Type 0
IsGathered side channels op = IfSome (used_port op) (λ a. a.side ≡ side → Contains channels a.channel)
