-- A look at a step that has a cycle: what its neighbours determine.
use Rattle.std.specs.Prelude.{◌≡◌, ℕ, zero, suc, ◌+◌, ◌∷◌, position, slice_index_or, Option, Some}
use Rattle.event_graph.specs.{Lane, lane_at}
use Rattle.time_engine.specs.{is_waiting, clocks_of, latest, cycle_unless}
use Rattle.engine_view.specs.{Held.Held, step_of, flags_of, found_flags}

-- the cycle of the step before step k of a lane, or 0 for the first step
abbrev pub previous_cycle : Lane → ℕ → ℕ
previous_cycle lane zero = 0
previous_cycle lane (suc k) = slice_index_or lane.cycles k 0

-- the cycle that module m's step k must have, by those of its neighbours: the latest of the clock in which the module comes to it
-- and of those from which on its blocking accesses are possible; none where one of these waits for a step without a cycle
abbrev pub looked : Held → ℕ → ℕ → Option ℕ
looked h m k =
    cycle_unless (position (is_waiting h.lanes h.channels) (step_of h m k).accesses)
    (latest ((previous_cycle (lane_at h.lanes m) k + (step_of h m k).gap) ∷ clocks_of h.lanes h.channels (step_of h m k).accesses))

-- the cycle that module m's step k has
abbrev pub cycle_held : Held → ℕ → ℕ → ℕ
cycle_held h m k = slice_index_or (lane_at h.lanes m).cycles k 0

-- a look finds module m's step k right: its cycle is the one that it must have, and in it the recorded outcomes are found
pub record IsLooked (h : Held) (m k : ℕ) : Type 0 where
  pub cycle : looked h m k ≡ Some (cycle_held h m k)
  pub outcomes : found_flags h.lanes h.channels (cycle_held h m k) (step_of h m k).accesses ≡ flags_of h m k
