-- A walk over a core's steps with a cycle: clock by clock, and within one clock module by module.
use Rattle.std.specs.Prelude.{◌≡◌, ℕ, ◌<◌, ◌≤◌, ◌⊎◌, List, map, slice_index, All, AllPairs}
use Rattle.std.specs.List.{range_with_len}
use Rattle.flow_design.specs.{Plan, ModuleState}
use Rattle.lockstep_defs.specs.{HistoryStep, IsBefore, steps_of}
use Rattle.event_timing.specs.Core.{Core}
use Rattle.timing_bridge.specs.{core_step}

-- a step is done before a clock, or in that clock by a module with a number below `next`
abbrev pub IsEarly : ℕ → ℕ → HistoryStep → Type 0
IsEarly clock next s = (s.clock < clock) ⊎ ((s.clock ≡ clock) × (s.«module» < next))

-- a walk has come to module `next` in a clock: the steps that it passed are in order, they are done before that point, and they are
-- the first ones of each module, as many as `passed` says
pub record IsWalked (p : Plan) (x : Core ModuleState) (done : List HistoryStep) (passed : List ℕ) (clock next : ℕ) : Type 0 where
  pub rising : AllPairs IsBefore done
  pub each : (i : ℕ) → steps_of i done ≡ map (core_step p x i) (range_with_len 0 (slice_index passed i))
  pub early : All (IsEarly clock next) done

-- the steps with a cycle that a walk has not passed come later: in its clock by module `next` or one with a higher number, or in a
-- later clock
abbrev pub AreLate : Core ModuleState → List ℕ → ℕ → ℕ → Type 0
AreLate x passed clock next =
    (i k : ℕ) → slice_index passed i ≤ k → k < x.timed i → (clock < x.cycle i k) ⊎ ((clock ≡ x.cycle i k) × (next ≤ i))
