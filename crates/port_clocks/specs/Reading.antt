-- The cycles of the steps that use a port, as they are read off the graph and the table.
use Rattle.std.specs.Prelude.{ℕ, ◌≡◌, ◌<◌, Option, Some, None, List, length, slice_get, slice_index, option_and_then}
use Rattle.flow_word.specs.{Place}
use Rattle.event_graph.specs.{Lane, cycle_of}

-- the cycle of the step at the n-th of these places, counted from 0; none where there is no such place or cycle
abbrev pub cycle_in : List Lane → List Place → ℕ → Option ℕ
cycle_in lanes places n = option_and_then (cycle_of lanes) (slice_get places n)

-- these are the cycles of the steps at these places, up to the first step that has none
pub record AreCycles (lanes : List Lane) (places : List Place) (cycles : List ℕ) : Type 0 where
  pub each : (n : ℕ) → n < length cycles → cycle_in lanes places n ≡ Some (slice_index cycles n)
  pub last : cycle_in lanes places (length cycles) ≡ None
