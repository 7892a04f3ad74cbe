-- What a change of a step's cycle can reach.
use Rattle.std.specs.Prelude.{◌≡◌, ℕ, suc, ◌<◌, ◌≤◌, List, Any, Some}
use Rattle.flow_word.specs.{side_of, Side, Step, Place, Access}
use Rattle.fifo_table.specs.{declared.enabler.Enabler.TheVariants.Event, Channel}
use Rattle.time_engine.specs.{enabler_at, determined}
use Rattle.engine_view.specs.{Held.Held, step_of, first_of}
use Rattle.cycle_changes.specs.Looks.{IsLooked, cycle_held}

-- the access is at this side of the channel
abbrev pub IsAccessAt : Side → ℕ → Access → Type 0
IsAccessAt side channel a = (side_of a.kind ≡ side) × (a.channel ≡ channel)

-- the step has an access at this side of the channel
abbrev pub HasAccessAt : Side → ℕ → Step → Type 0
HasAccessAt side channel step = Any (IsAccessAt side channel) step.accesses

-- the step has an access at this side of the channel with this ordinal
abbrev pub StandsAs : Side → ℕ → ℕ → Step → Type 0
StandsAs side channel ordinal step = Any (λ a. IsAccessAt side channel a × (a.ordinal ≡ ordinal)) step.accesses

-- the step has an access at this side of the channel that waits for the step at the place
abbrev pub WaitsAt : List Channel → Side → ℕ → Place → Step → Type 0
WaitsAt channels side channel at step = Any (λ a. IsAccessAt side channel a × (enabler_at channels a ≡ Event at)) step.accesses

-- the step has an access, at any channel, that waits for the step at the place
abbrev pub WaitsForStep : List Channel → Step → Place → Type 0
WaitsForStep channels step at = Any (λ a. enabler_at channels a ≡ Event at) step.accesses

-- a look finds each step with a cycle right for which P holds
abbrev pub AreLooked : Held → (Step → Type 0) → Type 0
AreLooked h P = (m k : ℕ) → k < first_of h m → P (step_of h m k) → IsLooked h m k

-- the step's cycle is below the limit, and a look finds right the step itself, the next step of its module, and each step that
-- waits for it
pub record IsLookedAround (h : Held) (limit : ℕ) (at : Place) : Type 0 where
  pub below : cycle_held h at.module at.step < limit
  pub own : IsLooked h at.module at.step
  pub following : suc at.step < first_of h at.module → IsLooked h at.module (suc at.step)
  pub waiting : AreLooked h (λ step. WaitsForStep h.channels step at)

-- no module's first step without a cycle is determined below the limit
abbrev pub NoneIsDue : Held → ℕ → Type 0
NoneIsDue h limit = (m c : ℕ) → determined h.lanes h.channels m ≡ Some c → limit ≤ c
