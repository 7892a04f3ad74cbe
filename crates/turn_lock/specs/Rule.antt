-- The rule of the table: what holds between any two steps.
use Rattle.std.specs.Prelude.{◌≡◌, ◌≢◌, ℕ, ◌<◌, ◌≤◌, List, [], length, slice_index, Option, Some, true, false}
use mathlib.Core.Option.{some, none}
use mathlib.Core.List.{IsPrefix}
use lib.ListN.{get_elem?}
use Rattle.atomic_table.specs.Table.{State}
use Rattle.turn_lock.specs.{declared.view.PassView.PassView, declared.view.Joined.Joined, Entries.entries_of}
use mathlib.Core.Option as maybe

-- what the rule speaks of beside the table: the value's history, how many passes the first one made, those that were joined into
-- it, the seat that holds the turn or held it last, and the seat of the pass with each number
pub record Story (E : Type 0) : Type 0 where
  pub history : List E
  pub made : ℕ
  pub joined : List (Joined E)
  pub holder : ℕ
  pub seat_of : ℕ → ℕ

-- the turn word
abbrev pub turn_of : {S V : Type 0} → State S V → ℕ
turn_of s = slice_index s.words 0

-- the table has two words and one slot
abbrev pub HasShape : {S V : Type 0} → State S V → Type 0
HasShape s = (length s.words ≡ 2) × (length s.homes ≡ 1)

-- the slot has a value of this history
abbrev pub IsHome : {K E : Type 0} → (K → List E) → List (maybe.Option (Option K)) → List E → Type 0
IsHome {K} history homes log = (x : K) × (get_elem? homes 0 ≡ some (some (Some x))) × (history x ≡ log)

-- the slot is lent to a seat, which alone knows what it has
abbrev pub IsSlotOut : {K : Type 0} → List (maybe.Option (Option K)) → Type 0
IsSlotOut homes = get_elem? homes 0 ≡ some none

-- seat j holds the turn
abbrev pub HasMark : {E : Type 0} → List (PassView E) → ℕ → Type 0
HasMark {E} views j = (v : PassView E) × (get_elem? views j ≡ some v) × (v.spent ≡ false) × (v.is_holder ≡ true)

-- seat j is the holder's, the turn is taken, and the seat's view has the value's history
abbrev pub IsHolder : {E : Type 0} → Story E → ℕ → ℕ → PassView E → Type 0
IsHolder t turn j v = (j ≡ t.holder) × (turn ≡ 1) × (v.history ≡ t.history)

-- the view has the passes that the first pass made, and those that were joined
abbrev pub IsFirst : {E : Type 0} → Story E → PassView E → Type 0
IsFirst t v = (v.made ≡ t.made) × (v.joined ≡ t.joined)

-- the rule for view v of seat j, where the turn word is `turn`
pub record Knows {E : Type 0} (bearer : E → Option ℕ) (passes : ℕ) (t : Story E) (turn j : ℕ) (v : PassView E) : Type 0 where
  -- the history begins with what the pass has seen; so of what two passes have seen, one is a prefix of the other
  pub begins : IsPrefix v.seen t.history
  -- at most one seat holds the turn, only where the turn is taken, and its view has the history
  pub mark : v.is_holder ≡ true → IsHolder t turn j v
  -- the number of a pass is at most the count of passes made; the view has the number of passes for which the lock was made
  pub low : v.number ≤ t.made
  pub limit : v.passes ≡ passes
  -- each number has its own seat, so no two passes have the same number
  pub placed : t.seat_of v.number ≡ j
  -- the pass with number 0 has the count of passes made, and only it has passes that were joined
  pub first : v.number ≡ 0 → IsFirst t v
  pub lone : v.number ≢ 0 → v.joined ≡ []
  -- the number is not that of a joined pass
  pub gone : (k : ℕ) (m : Joined E) → get_elem? t.joined k ≡ some m → v.number ≢ m.number
  -- the own entries of a pass are those that bear its number, and it has seen all of them
  pub own : v.own ≡ entries_of bearer v.number t.history
  pub own_seen : v.own ≡ entries_of bearer v.number v.seen

-- the rule for a pass that was joined, where the value has this history and `made` passes were made
pub record Past {E : Type 0} (bearer : E → Option ℕ) (log : List E) (made : ℕ) (m : Joined E) : Type 0 where
  -- its number is that of a pass that the first made
  pub positive : 0 < m.number
  pub low : m.number ≤ made
  -- its own entries are those of the history that bear its number
  pub own : m.own ≡ entries_of bearer m.number log
  -- the history begins with what the pass had seen, and with what the first pass had seen before the join
  pub seen : IsPrefix m.seen log
  pub before : IsPrefix m.before log

-- the rule of the table, for any time between two steps
pub record Ruled {K E : Type 0} (history : K → List E) (bearer : E → Option ℕ) (passes : ℕ)
    (s : State (Option K) (PassView E)) : Type 0 where
  pub story : Story E
  pub shape : HasShape s
  -- the turn word is 0 or 1, and the count word has the number of entries
  pub turn : turn_of s < 2
  pub counted : slice_index s.words 1 ≡ length story.history
  -- where the turn is free, the slot has the value
  pub free : turn_of s ≡ 0 → IsHome history s.homes story.history
  -- where the turn is taken, the slot is lent, and the holder's seat holds the turn
  pub taken : turn_of s ≡ 1 → IsSlotOut s.homes × HasMark s.views story.holder
  -- the rule for each pass that was not joined
  pub each : (j : ℕ) (v : PassView E) → get_elem? s.views j ≡ some v → v.spent ≡ false → Knows bearer passes story (turn_of s) j v
  -- the rule for each pass that was joined
  pub past : (k : ℕ) (m : Joined E) → get_elem? story.joined k ≡ some m → Past bearer story.history story.made m
  -- no entry bears the number of a pass that is not made yet
  pub unborn : (n : ℕ) → story.made < n → n < passes → entries_of bearer n story.history ≡ []
