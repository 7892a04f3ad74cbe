-- Steps with their cycles, in the form in which they are sorted.
use Rattle.std.specs.Prelude.{◌≡◌, ℕ, ◌<◌, List, map, length, All, IsPermutation, IsSortedBy}
use Rattle.std.specs.List.{range_with_len}
use Rattle.flow_word.specs.{Place}
use Rattle.event_graph.specs.{Lane, lane_at, HasStep}
use Rattle.engine_report.specs.{declared.events.TimedStep.TimedStep, Read.numbered_cycle, Read.timed_places, Read.is_step_before}

abbrev pub key_of : List Lane → ℕ → ℕ → TimedStep
key_of lanes i k = record { cycle = numbered_cycle lanes (i, k); «module» = i; step = k }

-- module i's steps with a cycle, as keys
abbrev pub keys_of : List Lane → ℕ → List TimedStep
keys_of lanes i = map (key_of lanes i) (range_with_len 0 (length (lane_at lanes i).cycles))

abbrev pub step_place : TimedStep → ℕ × ℕ
step_place key = (key.module, key.step)

abbrev pub place_at : ℕ → ℕ → Place
place_at i k = record { «module» = i; step = k }

-- the key is that of a step, and has its cycle
pub record HasKey (lanes : List Lane) (key : TimedStep) : Type 0 where
  pub there : HasStep lanes (place_at key.module key.step)
  pub cycle : key.cycle ≡ numbered_cycle lanes (step_place key)

-- the key is that of a step that has a cycle
pub record IsTimedKey (lanes : List Lane) (key : TimedStep) : Type 0 where
  pub is_key : HasKey lanes key
  pub timed : key.step < length (lane_at lanes key.module).cycles

-- these are the keys of all steps with a cycle, in order
pub record AreSortedKeys (lanes : List Lane) (keys : List TimedStep) : Type 0 where
  pub each : All (HasKey lanes) keys
  pub all : IsPermutation (timed_places lanes) (map step_place keys)
  pub sorted : IsSortedBy (is_step_before lanes) (map step_place keys)
