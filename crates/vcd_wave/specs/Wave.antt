-- The wave of a plan: how many elements each FIFO holds, told for the clocks in which that changes.
use Rattle.std.specs.Prelude.{ℕ, ◌-◌, ◌==◌, ◌&&◌, Bool, true, false, not, nat_lt, if◌then◌else◌, List, [], ◌∷◌, ◌++◌, map, filter, length}
use Rattle.std.specs.Prelude.{slice_index}
use Rattle.std.specs.List.{flat_map, range_with_len}
use Rattle.flow_design.specs.{Channel, Plan, is_fifo}
use Rattle.timelines.specs.{fills, last_clock}

-- the FIFO with this number, counted from 0 in order of declaration, holds this many elements from now on
pub record Change : Type 0 where
  pub fifo : ℕ
  pub fill : ℕ

-- a clock, and what changes in it
pub record Instant : Type 0 where
  pub clock : ℕ
  pub changes : List Change

-- the names of FIFOs, which are all empty in clock 0, and what changes in later clocks
pub record Wave : Type 0 where
  pub names : List (List ℕ)
  pub later : List Instant

-- ---- the wave of a plan

-- the names of the FIFOs, in order of declaration
abbrev pub fifo_names : List Channel → List (List ℕ)
fifo_names channels = map (λ (c : Channel). c.name) (filter (λ (c : Channel). is_fifo c.kind) channels)

-- the FIFO with this number holds different numbers of elements in the two lists
abbrev pub differs : List ℕ → List ℕ → ℕ → Bool
differs before now i = not (slice_index now i == slice_index before i)

-- the changes between two lists of fills: each FIFO that differs, with what it holds now
abbrev pub changes_between : List ℕ → List ℕ → List Change
changes_between before now =
    map (λ i. record { fifo = i; fill = slice_index now i }) (filter (differs before now) (range_with_len 0 (length now)))

-- the list is not empty
abbrev pub has_some : {X : Type 0} → List X → Bool
has_some [] = false
has_some (x ∷ xs) = true

-- a clock with these changes; none where there is no change
abbrev pub instant_of : ℕ → List Change → List Instant
instant_of clock [] = []
instant_of clock (x ∷ xs) = record { clock = clock; changes = x ∷ xs } ∷ []

-- what changes in a clock, compared with the clock before
abbrev pub instant_at : Plan → ℕ → List Instant
instant_at p clock = instant_of clock (changes_between (fills p (clock - 1)) (fills p clock))

-- the clocks up to this one in which some fill differs from the clock before, with these changes
unfoldable pub instants_to : Plan → ℕ → List Instant
instants_to p clock = flat_map (instant_at p) (range_with_len 1 clock)

-- the last clock, if it is above 0 and nothing changes in it
abbrev pub closing_instant : Plan → ℕ → List Instant
closing_instant p last = if nat_lt 0 last && not (has_some (instant_at p last)) then record { clock = last; changes = [] } ∷ [] else []

unfoldable pub wave_of : Plan → Wave
wave_of p = record { names = fifo_names p.design.channels; later = instants_to p (last_clock p) ++ closing_instant p (last_clock p) }
