-- The first of the least cycles.
use Rattle.std.specs.Prelude.{◌≡◌, ℕ, ◌≤◌, List, Option, None, Some, slice_get}
use Rattle.event_graph.specs.{Candidate}
use Rattle.event_graph.specs.declared.candidate.Candidate.TheVariants.{At, Waits, Beyond, Nothing}

-- the cycle of a candidate, if it is determined and below the limit
abbrev pub determined_cycle : Candidate → Option ℕ
determined_cycle (At cycle) = Some cycle
determined_cycle (Waits i) = None
determined_cycle Beyond = None
determined_cycle Nothing = None

-- module m's candidate has this cycle; no other candidate has a lesser one, and none of a lower module the same
pub record IsEarliest (candidates : List Candidate) (m cycle : ℕ) : Type 0 where
  pub here : slice_get candidates m ≡ Some (At cycle)
  pub least : (n other : ℕ) → slice_get candidates n ≡ Some (At other) → cycle ≤ other
  pub first : (n : ℕ) → slice_get candidates n ≡ Some (At cycle) → m ≤ n
