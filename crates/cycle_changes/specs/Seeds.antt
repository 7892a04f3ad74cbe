-- The steps from which a change of a depth begins.
use Rattle.std.specs.Prelude.{ℕ, ◌<◌, ◌⊎◌, List, Contains}
use Rattle.flow_word.specs.{declared.access.Side.TheVariants.Push, Place}
use Rattle.engine_view.specs.{place_of, step_of, first_of, Held.Held}
use Rattle.cycle_changes.specs.{Looks.IsLooked, Around.HasAccessAt}

-- these places have each step at the FIFO's pushing side in which a look finds the depth felt
abbrev pub AreSeeds : Held → ℕ → List Place → Type 0
AreSeeds h fifo seeds =
    (m k : ℕ) → k < first_of h m → HasAccessAt Push fifo (step_of h m k) → IsLooked h m k ⊎ Contains seeds (place_of m k)
