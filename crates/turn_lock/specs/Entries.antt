-- The entries of a history that bear a pass's number.
use Rattle.std.specs.Prelude.{◌≡◌, ℕ, ◌<◌, List, [], filter, Option, Some, None, Bool, false, ◌==◌}
use Rattle.turn_lock.specs.declared.view.PassView.{PassView}

-- the number that an entry bears, if any, is n
abbrev pub bears : Option ℕ → ℕ → Bool
bears (Some k) n = k == n
bears None n = false

-- the entries that bear the number n, in their order
abbrev pub entries_of : {E : Type 0} → (E → Option ℕ) → ℕ → List E → List E
entries_of bearer n es = filter (λ e. bears (bearer e) n) es

-- a pass's own entries are those of this history that bear its number; if it is the first pass, no entry bears a number that it has
-- yet to give
pub record Owns {E : Type 0} (bearer : E → Option ℕ) (log : List E) (v : PassView E) : Type 0 where
  pub own : v.own ≡ entries_of bearer v.number log
  pub unborn : v.number ≡ 0 → (n : ℕ) → v.made < n → n < v.passes → entries_of bearer n log ≡ []
