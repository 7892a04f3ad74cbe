-- A change of a depth that leaves a right record.
use Rattle.std.specs.Prelude.{◌≡◌, ℕ, ◌≤◌, ◌⊎◌, List, length, slice_index, All, Contains}
use Rattle.flow_design.specs.{Edit}
use Rattle.flow_word.specs.{Place, Side}
use Rattle.event_graph.specs.{lane_at}
use Rattle.fifo_table.specs.{deepened_channels}
use Rattle.event_timing.specs.{edited}
use Rattle.cycle_changes.specs.{Records.IsRightRecord, Looks.IsLooked, Looks.cycle_held, OtherCycles.HasOtherCycles, Seeds.AreSeeds}
use Rattle.cycle_changes.specs.Around.{IsLookedAround, NoneIsDue}
use Rattle.engine_view.specs.{place_of, core_of, IsKept, room_of, Engine, held_in, kinds_in, IsSomeCore, OfEach}
use Rattle.retime.specs.{KeepsRoomEdited, only_steps}

-- for each design of which s is a right record, t is a right record of the design with the new depth
abbrev pub StaysRight : Edit → ℕ → Engine → Engine → Type 0
StaysRight edit limit s t =
    OfEach s (λ d. IsRightRecord d limit (core_of d (held_in s))
    → IsRightRecord (edited d edit.channel edit.depth) limit (core_of (edited d edit.channel edit.depth) (held_in t))
    × IsKept (edited d edit.channel edit.depth) (held_in t))

-- t stays right after s, differs from s only in the depth and in cycles, and has the room that the credits promise
pub record HasChanged (edit : Edit) (limit : ℕ) (s t : Engine) : Type 0 where
  pub right : StaysRight edit limit s t
  pub core : IsSomeCore t
  pub room : KeepsRoomEdited edit s t
  pub steps : only_steps t.graph.lanes ≡ only_steps s.graph.lanes
  pub counts : (m : ℕ) → length (lane_at t.graph.lanes m).cycles ≡ length (lane_at s.graph.lanes m).cycles
  pub kinds : kinds_in t.fifos.channels ≡ kinds_in (deepened_channels s.fifos.channels edit.channel edit.depth)
  pub log : t.log ≡ s.log

-- what a check of new cycles finds: each step in which the new depth is felt, by the old cycles, is a seed, and each seed is right
-- now; each step with another cycle is a put, and what it can reach is right; no further step is determined below the limit
pub record AreRightChanges (s t : Engine) (edit : Edit) (limit : ℕ) (seeds puts : List Place) : Type 0 where
  pub other : HasOtherCycles (held_in s) (held_in t) edit
  pub felt : AreSeeds
      (record (held_in s) { channels = deepened_channels s.fifos.channels edit.channel edit.depth }) edit.channel seeds
  pub looked : All (λ p. IsLooked (held_in t) p.module p.step) seeds
  pub same : (m k : ℕ) → (cycle_held (held_in t) m k ≡ cycle_held (held_in s) m k) ⊎ Contains puts (place_of m k)
  pub around : All (IsLookedAround (held_in t) limit) puts
  pub late : NoneIsDue (held_in t) limit

-- engine t has the end marks and the credits of engine s, and no less room
pub record LosesNoRoom (s t : Engine) : Type 0 where
  pub lanes : (k : ℕ) → slice_index s.graph.rooms k ≤ slice_index t.graph.rooms k
  pub fifos : (side : Side) (c : ℕ) → room_of s.fifos side c ≤ room_of t.fifos side c
  pub logs : t.log.rooms ≡ s.log.rooms
  pub ends : t.ends ≡ s.ends
  pub credits : t.credits ≡ s.credits
