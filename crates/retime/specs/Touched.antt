-- The first clock that a change of a FIFO's depth touches.
use Rattle.std.specs.Prelude.{◌≡◌, ℕ, suc, ◌-◌, ◌<◌, ◌≤◌, min, ◌⊎◌, Bool, false, List, length, filter, nat_lt, slice_get, Option, None}
use Rattle.std.specs.Prelude.{Some, option_and_then}
use Rattle.std.specs.List.{AllPairs}
use Rattle.flow_design.specs.{declared.limits.TheConstants.FIFO_DEPTH, Edit}
use Rattle.flow_word.specs.{Place, declared.access.Side.TheVariants.Pop, declared.access.Side.TheVariants.Push}
use Rattle.event_graph.specs.{Lane, cycle_of}
use Rattle.fifo_table.specs.{Enabler, Channel, IsFifo, channel_at, depth_of, places_of}
use Rattle.fifo_table.specs.declared.enabler.Enabler.TheVariants as enabler

-- the edit is of one of the channels, a FIFO, to a depth that a FIFO may have
pub record IsEditIn (channels : List Channel) (e : Edit) : Type 0 where
  pub inside : e.channel < length channels
  pub is_fifo : IsFifo (channel_at channels e.channel).kind
  pub least : 1 ≤ e.depth
  pub most : e.depth ≤ FIFO_DEPTH

-- the cycle, if there is one, is before clock c
abbrev pub is_cycle_before : ℕ → Option ℕ → Bool
is_cycle_before c None = false
is_cycle_before c (Some u) = nat_lt u c

-- how many of these places have a cycle before clock c
abbrev pub timed_before : List Lane → List Place → ℕ → ℕ
timed_before lanes places c = length (filter (λ p. is_cycle_before c (cycle_of lanes p)) places)

-- how many elements a channel holds in clock c, those in flight included, by the cycles that were given
abbrev pub held_elements : List Lane → Channel → ℕ → ℕ
held_elements lanes channel c = timed_before lanes (places_of Push channel) c - timed_before lanes (places_of Pop channel) c

-- the places are of one module, and each is of a later step than the place before it
abbrev pub ArePlacesInOrder : List Place → Type 0
ArePlacesInOrder places = AllPairs (λ p q. (p.module ≡ q.module) × (p.step < q.step)) places

-- the cycle of the i-th of these places, counted from 0; none where there is no such place or cycle
abbrev pub clock_at : List Lane → List Place → ℕ → Option ℕ
clock_at lanes places i = option_and_then (cycle_of lanes) (slice_get places i)

-- the cycle of the event that an access waits for; none where there is no such event with a cycle
abbrev pub clock_by : List Lane → Enabler → Option ℕ
clock_by lanes enabler.Free = None
clock_by lanes enabler.Never = None
clock_by lanes enabler.Missing = None
clock_by lanes (enabler.Event place) = cycle_of lanes place

-- the depth changes, and t, the clock after a push, is the first clock in which the FIFO holds as many elements as the lesser of
-- both depths
pub record IsFirstTouched (lanes : List Lane) (channel : Channel) (depth t : ℕ) : Type 0 where
  pub changes : depth_of channel.kind ≡ depth → ⊥
  pub after : (i u : ℕ) × (clock_at lanes (places_of Push channel) i ≡ Some u) × (t ≡ suc u)
  pub reached : held_elements lanes channel t ≡ min (depth_of channel.kind) depth
  pub first : (c : ℕ) → c < t → held_elements lanes channel c ≡ min (depth_of channel.kind) depth → ⊥

-- the depth stays the same, or in no clock does the FIFO hold as many elements as the lesser of both depths
abbrev pub IsNeverTouched : List Lane → Channel → ℕ → Type 0
IsNeverTouched lanes channel depth = (depth_of channel.kind ≡ depth)
    ⊎ ((c : ℕ) → held_elements lanes channel c ≡ min (depth_of channel.kind) depth → ⊥)
