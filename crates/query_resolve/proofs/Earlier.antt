-- The first of the least cycles among the first candidates, one after the other.
use Rattle.std.proofs.Common.{◌≡◌, ℕ, ◌<◌, ◌≤◌, List, Option, None, Some}
use Rattle.std.specs.Prelude.{slice_get}
use Rattle.query_resolve.specs.{Candidate}
use Rattle.event_graph.specs.declared.candidate.Candidate.TheVariants.{At}

-- of the first i candidates this one is the first of the least
pub record IsFirst (candidates : List Candidate) (i m cycle : ℕ) : Type 0 where
  pub here : slice_get candidates m ≡ Some (At cycle)
  pub among : m < i
  pub least : (n other : ℕ) → n < i → slice_get candidates n ≡ Some (At other) → cycle ≤ other
  pub first : (n : ℕ) → n < i → slice_get candidates n ≡ Some (At cycle) → m ≤ n

-- what was found among the first i
abbrev pub Found : List Candidate → ℕ → Option (ℕ × ℕ) → Type 0
Found candidates i None = (n other : ℕ) → n < i → slice_get candidates n ≡ Some (At other) → ⊥
Found candidates i (Some found) = IsFirst candidates i found.0 found.1
