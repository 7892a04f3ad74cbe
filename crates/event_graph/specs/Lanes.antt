-- Lanes of steps: what a graph holds, when it is sound, and how it grows and shrinks.
use Rattle.std.specs.Prelude.{ℕ, ◌-◌, ◌<◌, ◌≤◌, ◌^◌, List, [], ◌∷◌, ◌++◌, length, drop, filter, nat_lt, slice_get, slice_set}
use Rattle.std.specs.Prelude.{slice_index_or, All, if◌then◌else◌, Option, None, Some}
use Rattle.std.specs.List.Sorted.{IsStrictlyIncreasing}
use Rattle.flow_word.specs.{Step, Place}

-- a module's steps, and the cycles of the first of them
pub record Lane : Type 0 where
  pub steps : List Step
  pub cycles : List ℕ

-- a bound that every cycle is below
abbrev pub cycle_bound : ℕ
cycle_bound = 10 ^ 15

-- a bound that every gap is below
abbrev pub gap_bound : ℕ
gap_bound = 10 ^ 18

-- a lane without a step
abbrev pub no_lane : Lane
no_lane = record { steps = []; cycles = [] }

-- the lane of a module
abbrev pub lane_at : List Lane → ℕ → Lane
lane_at lanes owner = slice_index_or lanes owner no_lane

-- there is a step at this place
pub record HasStep (lanes : List Lane) (place : Place) : Type 0 where
  pub owner : place.module < length lanes
  pub step : place.step < length (lane_at lanes place.module).steps

-- the cycle of a step, where it has one
abbrev pub cycle_of : List Lane → Place → Option ℕ
cycle_of lanes place = slice_get (lane_at lanes place.module).cycles place.step

-- the last cycle of a lane, where it has one
abbrev pub last_cycle : Lane → Option ℕ
last_cycle lane = slice_get lane.cycles (length lane.cycles - 1)

-- a step's gap and its number of accesses are in range
pub record IsSoundStep (step : Step) : Type 0 where
  pub gap : step.gap < gap_bound
  pub accesses : length step.accesses < 2 ^ 32

-- each step but the first comes at least one clock after the step before it; the steps with a cycle are a prefix, and their cycles
-- rise
pub record IsSoundLane (lane : Lane) : Type 0 where
  pub steps : All IsSoundStep lane.steps
  pub apart : All (λ step. 1 ≤ step.gap) (drop 1 lane.steps)
  pub prefix : length lane.cycles ≤ length lane.steps
  pub rising : IsStrictlyIncreasing lane.cycles
  pub below : All (λ cycle. cycle < cycle_bound) lane.cycles

-- the lane with one more step
abbrev pub lane_with_step : Lane → Step → Lane
lane_with_step lane step = record { steps = lane.steps ++ step ∷ []; cycles = lane.cycles }

-- the lane with a cycle for its first step that had none
abbrev pub lane_with_cycle : Lane → ℕ → Lane
lane_with_cycle lane cycle = record { steps = lane.steps; cycles = lane.cycles ++ cycle ∷ [] }

-- the lane with only those cycles that are below the given one
abbrev pub timed_below : ℕ → Lane → Lane
timed_below cycle lane = record { steps = lane.steps; cycles = filter (λ c. nat_lt c cycle) lane.cycles }

-- the lane with another cycle of one of its steps
abbrev pub put_in : Lane → ℕ → ℕ → Lane
put_in lane step cycle = record { steps = lane.steps; cycles = slice_set lane.cycles step cycle }

-- the lanes with one more step of a module
abbrev pub with_step : List Lane → ℕ → Step → List Lane
with_step lanes owner step = slice_set lanes owner (lane_with_step (lane_at lanes owner) step)

-- the lanes with a cycle for a module's first step that had none
abbrev pub with_cycle : List Lane → ℕ → ℕ → List Lane
with_cycle lanes owner cycle = slice_set lanes owner (lane_with_cycle (lane_at lanes owner) cycle)

-- the lanes with another cycle of the step at a place
abbrev pub with_put : List Lane → Place → ℕ → List Lane
with_put lanes place cycle = slice_set lanes place.module (put_in (lane_at lanes place.module) place.step cycle)

-- a cycle where it is below the given one, else none
abbrev pub if_below : ℕ → Option ℕ → Option ℕ
if_below cycle None = None
if_below cycle (Some c) = if nat_lt c cycle then Some c else None
