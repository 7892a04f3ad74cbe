-- The cycle of a module's first step without a cycle.
use Rattle.std.specs.Prelude.{◌≡◌, ℕ, ◌+◌, ◌<◌, max, not, Bool, ◌&&◌, if◌then◌else◌, List, [], ◌∷◌, length, filter, position, Option, None}
use Rattle.std.specs.Prelude.{Some, unwrap_or, is_some, is_none, option_and_then, slice_get}
use Rattle.std.specs.{List.filter_map, Option.ForSome}
use Rattle.flow_word.specs.{Access, Step, is_blocking}
use Rattle.event_graph.specs.{Lane, lane_at, last_cycle, cycle_bound}
use Rattle.fifo_table.specs.{Channel}
use Rattle.time_engine.specs.{declared.known.Known.Known, Possible.when_possible}
use Rattle.time_engine.specs.declared.known.Known.TheVariants.{From, Never, Unknown}

-- ---- the accesses of a step

-- the clock from which on an access is possible, where it is known
abbrev pub known_clock : Known → Option ℕ
known_clock (From clock) = Some clock
known_clock Never = None
known_clock Unknown = None

-- the access waits: it blocks, and it is not known from which clock on it is possible
abbrev pub is_waiting : List Lane → List Channel → Access → Bool
is_waiting lanes channels access = is_blocking access.kind && is_none (known_clock (when_possible lanes channels access))

-- the known clocks from which on the blocking ones among these accesses are possible
unfoldable pub clocks_of : List Lane → List Channel → List Access → List ℕ
clocks_of lanes channels accesses = filter_map (λ access. known_clock (when_possible lanes channels access))
    (filter (λ access. is_blocking access.kind) accesses)

-- the latest of these clocks, or 0 where there is none
unfoldable pub latest : List ℕ → ℕ
latest [] = 0
latest (clock ∷ clocks) = max clock (latest clocks)

-- ---- a module's first step without a cycle

abbrev pub open_step : Lane → Option Step
open_step lane = slice_get lane.steps (length lane.cycles)

-- the clock in which the module comes to the step: its gap after the module's last cycle, or after clock 0
abbrev pub arrival : Lane → Step → ℕ
arrival lane step = unwrap_or (last_cycle lane) 0 + step.gap

-- the number of the first access that waits in the module's first step without a cycle
unfoldable pub first_waiting : List Lane → List Channel → ℕ → Option ℕ
first_waiting lanes channels owner = option_and_then (λ step. position (is_waiting lanes channels) step.accesses)
    (open_step (lane_at lanes owner))

-- the cycle, or none where an access waits
abbrev pub cycle_unless : Option ℕ → ℕ → Option ℕ
cycle_unless waiting cycle = if is_some waiting then None else Some cycle

-- the determined cycle of a module's first step without a cycle, where no access waits: the latest of the clock in which the module
-- comes to the step and of those from which on its blocking accesses are possible
unfoldable pub determined : List Lane → List Channel → ℕ → Option ℕ
determined lanes channels owner =
    option_and_then (λ step. cycle_unless (first_waiting lanes channels owner)
    (latest (arrival (lane_at lanes owner) step ∷ clocks_of lanes channels step.accesses)))
    (open_step (lane_at lanes owner))

-- the module has a step without a cycle that can be given this one, which is later than the module's last
pub record MayTake (lanes : List Lane) (owner cycle : ℕ) : Type 0 where
  pub inside : owner < length lanes
  pub waiting : length (lane_at lanes owner).cycles < length (lane_at lanes owner).steps
  pub below : cycle < cycle_bound
  pub later : ForSome (last_cycle (lane_at lanes owner)) (λ last. last < cycle)

-- the module's first step without a cycle can be given this one, and `queries` of its accesses are queries
pub record MayTakeWith (lanes : List Lane) (owner cycle queries : ℕ) : Type 0 where
  pub may : MayTake lanes owner cycle
  pub count : ForSome (open_step (lane_at lanes owner)) (λ step. queries ≡ length (filter (λ a. not (is_blocking a.kind)) step.accesses))
