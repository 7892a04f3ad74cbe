use Rattle.std.proofs.Common.{ℕ, ◌<◌, ◌⊎◌}
use Rattle.std.specs.Prelude.{Contains}
use Rattle.flow_word.specs.declared.access.Side.TheVariants.{Push}
use Rattle.cycle_changes.specs.{place_of, step_of, held_in, IsLooked, HasAccessAt}
use Rattle.cycle_changes.proofs.seeds.find_seeds.Given as goal

abbrev pub invariant-loop-step : goal.invariant-loop-step
invariant-loop-step l =
    (k : ℕ) → k < l.step → HasAccessAt Push l.channel (step_of (held_in l.engine) l.owner k)
    → IsLooked (held_in l.engine) l.owner k ⊎ Contains l.seeds.items (place_of l.owner k)
