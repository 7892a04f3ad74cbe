-- A record of cycles and outcomes, and when one of its steps is right.
use Rattle.std.specs.Prelude.{List, [], ◌∷◌, Bool, ltb, ◌||◌, Option, Some, false, suc, true, ℕ, ◌+◌, ◌-◌, ◌<◌, ◌≡◌, ◌≤◌, ◌⊎◌}
use Rattle.flow_word.specs.{Side, other_side, declared.access.Side.TheVariants.Push}
use Rattle.event_timing.specs.{Access, Design, Each, from, tally, place, MayRun, AreOwnMarks, edited, Known, answer, known, bound, to_clock}
use Rattle.event_timing.specs.{flags_at, candidate, core_accesses, core_reply, has_query, values_there, view}
use Rattle.event_timing.specs.{Enablers.Known.From, Core.Core}

-- what the whole record tells of an access of module m's step k: from when on it is possible
abbrev pub known_at : {S : Type 0} → Design S → Core S → ℕ → ℕ → Access → Known
known_at {S} d x m k a =
    known d (view d x) a.side a.channel (tally (core_accesses d x m) (core_reply d x m) a.side a.channel k)

-- module m's step k is right: its cycle is the later of the clock in which the module comes to it and the clock from which on all
-- its blocking accesses are possible, and each outcome is the one that is found in that cycle
pub record IsRight {S : Type 0} (d : Design S) (x : Core S) (m k : ℕ) : Type 0 where
  pub cycle : to_clock (from (x.cycle m) k + x.wait m k) (bound (known_at d x m k) (core_accesses d x m k)) ≡ Some (x.cycle m k)
  pub outcomes : flags_at (known_at d x m k) (x.cycle m k) (core_accesses d x m k) ≡ x.flags m k

-- the record is right: each step with a cycle is right, and no action is permitted
pub record IsRightRecord {S : Type 0} (d : Design S) (limit : ℕ) (x : Core S) : Type 0 where
  pub marks : AreOwnMarks d x
  pub within : (m : ℕ) → x.timed m ≤ x.emitted m
  pub right : (m k : ℕ) → k < x.timed m → IsRight d x m k
  pub below : (m k : ℕ) → k < x.timed m → x.cycle m k < limit
  -- no Run is permitted, and no step without a cycle is determined below the limit
  pub no_run : (m : ℕ) → MayRun d x m → ⊥
  pub beyond : (m c : ℕ) → candidate d (view d x) m ≡ Some c → limit ≤ c
  -- the steps with a cycle are verified; of the others only those without a query
  pub answered : (m k : ℕ) → k < x.timed m → x.answered m k ≡ true
  pub there : (m k : ℕ) → k < x.timed m → values_there d x m k ≡ true
  pub verified : (m k : ℕ) → k < x.timed m → x.verified m k ≡ true
  pub verified_answered : (m k : ℕ) → k < x.emitted m → x.verified m k ≡ true → x.answered m k ≡ true
  pub plain : (m k : ℕ) → x.timed m ≤ k → k < x.emitted m → x.verified m k ≡ true → has_query (core_accesses d x m k) ≡ false

-- ---- records that differ only in cycles

abbrev pub with_cycles : {S : Type 0} → Core S → (ℕ → ℕ → ℕ) → Core S
with_cycles {S} x cycles = record x { cycle = cycles }

-- the module at the other side of an access's channel
abbrev pub partner : {S : Type 0} → Design S → Access → ℕ
partner {S} d a = d.owner (other_side a.side) a.channel

-- the step, in the module at the channel's other side, that enables an access of module m's step k; none where no step with a cycle
-- does
abbrev pub enabling_step : {S : Type 0} → Design S → Core S → ℕ → ℕ → Access → Option ℕ
enabling_step {S} d x m k a =
    place (core_accesses d x (partner d a)) (core_reply d x (partner d a)) (other_side a.side) a.channel (x.timed (partner d a))
    (tally (core_accesses d x m) (core_reply d x m) a.side a.channel k - d.start a.side a.channel)

-- how many pops (or pushes) of an access's channel module m has before its step k
abbrev pub count_before : {S : Type 0} → Design S → Core S → ℕ → ℕ → Access → ℕ
count_before {S} d x m k a = tally (core_accesses d x m) (core_reply d x m) a.side a.channel k

-- module m's step k takes at this side of the channel, after i earlier takes there
pub record IsTaking {S : Type 0} (d : Design S) (x : Core S) (m : ℕ) (side : Side) (ch i k : ℕ) : Type 0 where
  pub before : tally (core_accesses d x m) (core_reply d x m) side ch k ≤ i
  pub now : i < tally (core_accesses d x m) (core_reply d x m) side ch (suc k)

-- the access waits for no step: there is an input, or a place that was never taken, or its other side never comes
abbrev pub is_free_at : {S : Type 0} → Design S → Core S → ℕ → ℕ → Access → Bool
is_free_at {S} d x m k a =
    d.closed a.side a.channel || (d.unlimited a.side a.channel || ltb (count_before d x m k a) (d.start a.side a.channel))

-- the step that enables the access, if it waits for one, keeps its cycle
abbrev pub KeepsEnabler : {S : Type 0} → Design S → Core S → (ℕ → ℕ → ℕ) → ℕ → ℕ → Access → Type 0
KeepsEnabler {S} d x cycles m k a =
    is_free_at d x m k a ≡ false → (e : ℕ) → enabling_step d x m k a ≡ Some e → cycles (partner d a) e ≡ x.cycle (partner d a) e

-- the step keeps its cycle, and so do the step before it and the steps that enable its accesses
pub record IsUnmoved {S : Type 0} (d : Design S) (x : Core S) (cycles : ℕ → ℕ → ℕ) (m k : ℕ) : Type 0 where
  pub own : cycles m k ≡ x.cycle m k
  pub before : from (cycles m) k ≡ from (x.cycle m) k
  pub enablers : Each (KeepsEnabler d x cycles m k) (core_accesses d x m k)

-- step k comes after the n-th take at this side of the channel, and not after the next one
pub record IsBetween {S : Type 0} (d : Design S) (x : Core S) (m : ℕ) (side : Side) (ch n k : ℕ) : Type 0 where
  pub last : (p i : ℕ) → suc i ≡ n → IsTaking d x m side ch i p → p < k
  pub next : (q : ℕ) → IsTaking d x m side ch n q → k ≤ q

-- the access is one of these accesses
abbrev pub IsAmong : Access → List Access → Type 0
IsAmong a [] = ⊥
IsAmong a (b ∷ xs) = (a ≡ b) ⊎ IsAmong a xs

-- P holds around each changed step: of the step itself, of the next step of its module, and of each step with an access that it
-- enables; all other steps keep their cycles
pub record IsSaidAround {S : Type 0} (d : Design S) (x : Core S) (cycles : ℕ → ℕ → ℕ) (changed : ℕ → ℕ → Bool) (P : ℕ → ℕ → Type 0)
    : Type 0 where
  pub same : (m k : ℕ) → changed m k ≡ false → cycles m k ≡ x.cycle m k
  pub own : (m k : ℕ) → changed m k ≡ true → k < x.timed m → P m k
  pub following : (m k : ℕ) → changed m k ≡ true → suc k < x.timed m → P m (suc k)
  pub enabled : (m k : ℕ) (a : Access) → k < x.timed m → IsAmong a (core_accesses d x m k) → is_free_at d x m k a ≡ false
      → (e : ℕ) → enabling_step d x m k a ≡ Some e → changed (partner d a) e ≡ true → P m k

-- the steps around each changed step are right with the new cycles
abbrev pub AreRightAround : {S : Type 0} → Design S → Core S → (ℕ → ℕ → ℕ) → (ℕ → ℕ → Bool) → Type 0
AreRightAround {S} d x cycles changed = IsSaidAround d x cycles changed (λ m k. IsRight d (with_cycles x cycles) m k)

-- none of the step's accesses is at the FIFO's pushing side
abbrev pub IsBeside : {S : Type 0} → Design S → Core S → ℕ → ℕ → ℕ → Type 0
IsBeside {S} d x fifo m k = Each (λ a. a.side ≡ Push → a.channel ≡ fifo → ⊥) (core_accesses d x m k)

-- for an access in clock c, what is known after an edit gives what was known before: a blocking access is possible by then, and
-- from c itself on if it was before; a query has the same answer
pub record IsSlack (c : ℕ) (a : Access) (old new : Known) : Type 0 where
  pub blocking : a.blocks ≡ true → (u : ℕ) → old ≡ From u → u ≤ c → (v : ℕ) × (new ≡ From v) × (v ≤ c) × (u ≡ c → v ≡ c)
  pub query : a.blocks ≡ false → answer new c ≡ answer old c

-- the new depth is not felt in module m's step k, by the old cycles
abbrev pub HasSlack : {S : Type 0} → Design S → Core S → ℕ → ℕ → ℕ → ℕ → Type 0
HasSlack {S} d x fifo depth m k =
    Each (λ a. IsSlack (x.cycle m k) a (known_at d x m k a) (known_at (edited d fifo depth) x m k a)) (core_accesses d x m k)

-- what a check of new cycles after an edit must find of a step: it stays as it was, and the new depth is not felt in it; or it is
-- right in the new record
abbrev pub IsChecked : {S : Type 0} → Design S → Core S → (ℕ → ℕ → ℕ) → ℕ → ℕ → ℕ → ℕ → ℕ → Type 0
IsChecked {S} d x cycles fifo depth t m k =
    (IsUnmoved (edited d fifo depth) x cycles m k
    × (IsBeside d x fifo m k ⊎ ((x.cycle m k < t) ⊎ IsRight (edited d fifo depth) x m k)))
    ⊎ IsRight (edited d fifo depth) (with_cycles x cycles) m k
