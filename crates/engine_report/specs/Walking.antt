-- Where a walk over the steps of a graph is, and what it has given.
use Rattle.std.specs.Prelude.{ℕ, ◌≡◌, ◌-◌, ◌<◌, ◌≤◌, ◌^◌, List, [], ◌∷◌, ◌++◌, Option, Some, None, length, map, sum, sum_by, slice_index}
use Rattle.std.specs.Prelude.{slice_index_or}
use Rattle.std.specs.List.{range_with_len}
use Rattle.flow_design.specs.{Plan}
use Rattle.event_graph.specs.{Lane, lane_at}
use Rattle.timing_bridge.specs.{design, steps_at}
use Rattle.engine_view.specs.{Held.Held, core_of}
use Rattle.engine_report.specs.declared.events.TimedStep.{TimedStep}
use Rattle.engine_report.specs.{Keys.step_place, Keys.IsTimedKey, Walks.IsWalked, declared.walk.StepWalk.StepWalk}

-- a number that is later than each cycle
abbrev pub past_every_cycle : ℕ
past_every_cycle = 2 ^ 64 - 1

-- the cycle of module i's step k, or `past_every_cycle` where it has none
abbrev pub next_cycle : List Lane → ℕ → ℕ → ℕ
next_cycle lanes i k = slice_index_or (lane_at lanes i).cycles k past_every_cycle

-- the cycle of each module's first step
abbrev pub first_cycles : List Lane → List ℕ
first_cycles lanes = map (λ i. next_cycle lanes i 0) (range_with_len 0 (length lanes))

-- what a walk keeps of the graph, and what always holds of it
pub record IsWalk (lanes : List Lane) (walk : StepWalk) : Type 0 where
  pub givens : length walk.given ≡ length lanes
  pub nexts : length walk.next ≡ length lanes
  pub turn : walk.module ≤ length lanes
  -- the next cycle of each module is that of the step after those that were given
  pub each : (i : ℕ) → i < length lanes → slice_index walk.next i ≡ next_cycle lanes i (slice_index walk.given i)
  pub within : (i : ℕ) → i < length lanes → slice_index walk.given i ≤ length (lane_at lanes i).cycles
  -- modules that have had their turn have no step before `later`, and the others none before this round's clock
  pub later : walk.clock < walk.later
  pub bound : walk.later ≤ past_every_cycle
  pub early : (i : ℕ) → i < walk.module → walk.later ≤ slice_index walk.next i
  pub due : (i : ℕ) → walk.module ≤ i → i < length lanes → walk.clock ≤ slice_index walk.next i

-- the walk has given these steps: for each core with the cycles of the graph, they are those that the theory's walk has passed at
-- this point
pub record HasGiven (lanes : List Lane) (walk : StepWalk) (steps : List TimedStep) : Type 0 where
  pub done : (p : Plan) (held : Held) → held.lanes ≡ lanes → let x = core_of (design p) held in
      IsWalked p x (steps_at p x (map step_place steps)) walk.given walk.clock walk.module

-- how many steps the walk has not given yet
abbrev pub to_give : List Lane → StepWalk → ℕ
to_give lanes walk = sum_by (λ lane. length lane.cycles) lanes - sum walk.given

-- what the search of one round finds, and where the walk is then: beyond all modules where nothing is found
abbrev pub FoundIn : List Lane → StepWalk → Option TimedStep → StepWalk → Type 0
FoundIn lanes old None new = (new.module ≡ length lanes) × (new.given ≡ old.given)
    × ((steps : List TimedStep) → HasGiven lanes old steps → HasGiven lanes new steps)
FoundIn lanes old (Some step) new = IsTimedKey lanes step × (to_give lanes new < to_give lanes old)
    × ((steps : List TimedStep) → HasGiven lanes old steps → HasGiven lanes new (steps ++ step ∷ []))
