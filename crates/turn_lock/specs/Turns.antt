-- What a turn, and the end of the lock, tell about a pass.
use Rattle.std.specs.Prelude.{◌≡◌, ℕ, ◌+◌, ◌<◌, ◌≤◌, List, [], ◌++◌, Option, Some, true, slice_get}
use mathlib.Core.Option.{some}
use mathlib.Core.List.{IsPrefix}
use lib.ListN.{get_elem?}
use Rattle.turn_lock.specs.{declared.view.PassView.PassView, declared.view.Joined.Joined, Entries.entries_of, Entries.Owns}

-- v and w are views of the same pass, with the same passes made and joined
pub record IsSamePass {E : Type 0} (v w : PassView E) : Type 0 where
  pub number : w.number ≡ v.number
  pub passes : w.passes ≡ v.passes
  pub made : w.made ≡ v.made
  pub joined : w.joined ≡ v.joined

-- the history goes on from what the pass has seen; it has the pass's own entries, and none of them after that
pub record Continues {E : Type 0} (bearer : E → Option ℕ) (v : PassView E) (log : List E) : Type 0 where
  pub begins : IsPrefix v.seen log
  pub owns : Owns bearer log v
  pub since : (later : List E) → v.seen ++ later ≡ log → entries_of bearer v.number later ≡ []

-- pass v got the turn after `tries` lost tries; in the turn it knows w, and the value has this history
pub record BeginsTurn {E : Type 0} (bearer : E → Option ℕ) (tries : ℕ) (log : List E) (v w : PassView E) : Type 0 where
  pub same : IsSamePass v w
  pub seen : w.seen ≡ v.seen
  pub own : w.own ≡ v.own
  pub turns : w.turns ≡ v.turns
  pub lost : w.lost ≡ v.lost + tries
  pub history : w.history ≡ log
  pub continues : Continues bearer v log

-- turn v was handed back with this history, which has these further entries of the pass; the pass then knows w
pub record EndsTurn {E : Type 0} (added log : List E) (v w : PassView E) : Type 0 where
  pub same : IsSamePass v w
  pub seen : w.seen ≡ log
  pub own : w.own ≡ v.own ++ added
  pub settled : w.settled ≡ true
  pub turns : w.turns ≡ v.turns + 1
  pub lost : w.lost ≡ v.lost

-- each pass that the first one made was joined into it
abbrev pub AllJoined : {E : Type 0} → PassView E → Type 0
AllJoined {E} v = (n : ℕ) → 0 < n → n ≤ v.made → (k : ℕ) × (m : Joined E) × (get_elem? v.joined k ≡ some m) × (m.number ≡ n)

-- the history has the joined pass's own entries, and begins with what it and the first pass had seen
pub record ShowsJoined {E : Type 0} (bearer : E → Option ℕ) (log : List E) (m : Joined E) : Type 0 where
  pub own : entries_of bearer m.number log ≡ m.own
  pub seen : IsPrefix m.seen log
  pub before : IsPrefix m.before log

-- the history has each pass's own entries, begins with what each pass has seen, and has no entry of a pass that was never made
pub record ShowsAll {E : Type 0} (bearer : E → Option ℕ) (v : PassView E) (log : List E) : Type 0 where
  pub seen : IsPrefix v.seen log
  pub own : entries_of bearer 0 log ≡ v.own
  pub joined : (k : ℕ) (m : Joined E) → get_elem? v.joined k ≡ some m → ShowsJoined bearer log m
  pub unborn : (n : ℕ) → v.made < n → n < v.passes → entries_of bearer n log ≡ []

-- the history begins with what the pass has seen, and has the pass's own entries, each once and in their order
pub record ShowsPass {E : Type 0} (bearer : E → Option ℕ) (log : List E) (v : PassView E) : Type 0 where
  pub seen : IsPrefix v.seen log
  pub own : entries_of bearer v.number log ≡ v.own

-- the history shows the first pass v and each of the others, and has no entry of a pass that was never made
pub record ShowsEach {E : Type 0} (bearer : E → Option ℕ) (v : PassView E) (rest : List (PassView E)) (log : List E) : Type 0 where
  pub first : ShowsPass bearer log v
  pub others : (k : ℕ) (w : PassView E) → slice_get rest k ≡ Some w → ShowsPass bearer log w
  pub unborn : (n : ℕ) → v.made < n → n < v.passes → entries_of bearer n log ≡ []

-- each pass that the first one made is among these, in any order
abbrev pub AreAllMade : {E : Type 0} → PassView E → List (PassView E) → Type 0
AreAllMade {E} v ws = (n : ℕ) → 0 < n → n ≤ v.made → (k : ℕ) × (w : PassView E) × (slice_get ws k ≡ Some w) × (w.number ≡ n)
