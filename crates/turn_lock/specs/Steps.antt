-- What a step on a word tells the seat that makes it.
use Rattle.std.specs.Prelude.{◌≡◌, ◌≢◌, ℕ, List, [], ◌∷◌, ◌++◌, Option, Some, true, false}
use Rattle.atomic_table.specs.Table.{Me, Step}
use Rattle.turn_lock.specs.{declared.view.PassView.PassView, Turns.Continues}
use Rattle.turn_lock.specs.Views.{as_holder, after_lost_tries, after_entry, after_turn}

-- a seat: its view, and the slots that are lent to it
abbrev pub Seated : Type 0 → Type 0 → Type 0
Seated K E = Me (Option K) (PassView E)

module _ {K E : Type 0} where
  -- what a swap tells: the turn was free, and the seat has the slot, with a value whose history goes on from what was seen; or it
  -- was taken, and one more try is lost
  abbrev pub Swapped : (K → List E) → (E → Option ℕ) → Step (Option K) → Seated K E → ℕ → Seated K E → Type 0
  Swapped history bearer st m found m' = (found ≡ 0 → (x : K) × (m'.1 ≡ (0, Some x) ∷ m.1) × (m'.0 ≡ as_holder (history x) m.0)
      × Continues bearer m.0 (history x))
      × (found ≢ 0 → m' ≡ (after_lost_tries 1 m.0, m.1))

  -- what an addition to the count tells: the history of the value in the slot has one entry e more than when the turn began, and
  -- the seat has put e
  abbrev pub Added : (K → List E) → Step (Option K) → Seated K E → ℕ → Seated K E → Type 0
  Added history st m found m' = (m'.1 ≡ m.1)
      × ((x : K) (e : E) → m.1 ≡ (0, Some x) ∷ [] → history x ≡ m.0.history ++ e ∷ [] → m'.0 ≡ after_entry (history x) e m.0)

  -- what a store in the turn word tells: the slot is given back, and the turn is over
  abbrev pub Freed : Step (Option K) → Seated K E → ℕ → Seated K E → Type 0
  Freed st m found m' = (m'.1 ≡ []) × (m'.0 ≡ after_turn m.0)

-- the seat can end its turn: it holds the turn and the slot, with a value whose history is the one in its view
pub record CanEnd {K E : Type 0} (history : K → List E) (m : Seated K E) : Type 0 where
  pub alive : m.0.spent ≡ false
  pub mark : m.0.is_holder ≡ true
  pub carried : (x : K) × (m.1 ≡ (0, Some x) ∷ []) × (history x ≡ m.0.history)
