-- What is found to be right after cycles were put.
use Rattle.std.specs.Prelude.{ℕ, List, map, All}
use Rattle.flow_word.specs.{Place}
use Rattle.engine_view.specs.{Engine, held_in}
use Rattle.cycle_changes.specs.{Looks.IsLooked, declared.changes.Put.Put, Around.IsLookedAround, Around.NoneIsDue, Seeds.AreSeeds}

-- the steps whose cycles were put
abbrev pub put_places : List Put → List Place
put_places puts = map (λ p. p.place) puts

-- the seeds are right, and so is what the puts can reach; no further step is determined below the limit
pub record AreFoundRight (t : Engine) (limit : ℕ) (seeds puts : List Place) : Type 0 where
  pub looked : All (λ p. IsLooked (held_in t) p.module p.step) seeds
  pub around : All (IsLookedAround (held_in t) limit) puts
  pub late : NoneIsDue (held_in t) limit

-- the seeds have each step in which the present depth is felt, by the cycles before the puts; and the check finds seeds and puts
-- right
pub record IsFoundRight (s t : Engine) (channel limit : ℕ) (seeds puts : List Place) : Type 0 where
  pub felt : AreSeeds (held_in s) channel seeds
  pub now : AreFoundRight t limit seeds puts
