-- What is known of when an access is possible, and what follows for a step: its cycle, and the answers to its queries.
use Rattle.std.specs.Prelude.{Bool, List, None, Option, Some, [], cond, false, leb, ltb, max, true, ℕ, ◌&&◌, ◌+◌, ◌-◌, ◌||◌, ◌∷◌, ◌≡◌, ◌≤◌}
use Rattle.flow_word.specs.{Side, other_side}
use Rattle.event_timing.specs.Machines.{Access, Design}
use Rattle.event_timing.specs.Views.{View, tally, place, from, first_accesses, own_state}

-- what is known about when an access is possible: from some clock on, never, or nothing yet
pub data Known : Type 0 where
  From : ℕ → Known
  Never : Known
  Unknown : Known

-- an access is possible from the cycle of its enabler plus the lag on; unknown while there is no enabler with a cycle
abbrev pub from_step : (ℕ → ℕ) → ℕ → Option ℕ → Known
from_step cycle lag None = Unknown
from_step cycle lag (Some j) = From (cycle j + lag)

-- the step of module w, among those with a cycle, that pops (or pushes) the channel after i earlier pops (or pushes)
abbrev pub timed_place : View → ℕ → Side → ℕ → ℕ → Option ℕ
timed_place v w side ch i = place (v.accesses w) (v.reply w) side ch (v.timed w) i

-- what is known of the pop (or push) of a channel that comes after i earlier ones
unfoldable pub known : {S : Type 0} → Design S → View → Side → ℕ → ℕ → Known
known {S} d v side ch i =
    cond (d.unlimited side ch || ltb i (d.start side ch)) (From 0)
    (cond (d.closed side ch) Never
    (from_step (v.cycle (d.owner (other_side side) ch)) (d.lag side ch)
    (timed_place v (d.owner (other_side side) ch) (other_side side) ch (i - d.start side ch))))

-- what is known of an access of module m's first step without a cycle
abbrev pub known_of : {S : Type 0} → Design S → View → ℕ → Access → Known
known_of {S} d v m a = known d v a.side a.channel (tally (v.accesses m) (v.reply m) a.side a.channel (v.timed m))

-- what is known of two accesses together: from when on both are possible
abbrev pub both : Known → Known → Known
both (From a) (From b) = From (max a b)
both (From a) Never = Unknown
both (From a) Unknown = Unknown
both Never k = Unknown
both Unknown k = Unknown

-- what is known of the accesses that block, together: from when on all of them are possible
abbrev pub bound : (Access → Known) → List Access → Known
bound know [] = From 0
bound know (a ∷ xs) = cond a.blocks (both (know a) (bound know xs)) (bound know xs)

-- the clock in which the module comes to its first step without a cycle, if nothing blocks it
abbrev pub unblocked_clock : View → ℕ → ℕ
unblocked_clock v m = from (v.cycle m) (v.timed m) + v.wait m (v.timed m)

-- the later one of a clock and that from which an access is possible; none where that is not known
abbrev pub to_clock : ℕ → Known → Option ℕ
to_clock t (From u) = Some (max t u)
to_clock t Never = None
to_clock t Unknown = None

-- the determined cycle of module m's first step without one; none where the step or its enablers are not known
unfoldable pub candidate : {S : Type 0} → Design S → View → ℕ → Option ℕ
candidate {S} d v m = cond (v.more m) (to_clock (unblocked_clock v m) (bound (known_of d v m) (first_accesses v m))) None

-- no module can go on before clock t: each is over, or its first step without a cycle is not determined below t
pub record IsStuck {S : Type 0} (d : Design S) (v : View) (t : ℕ) : Type 0 where
  pub ended : (m : ℕ) → v.more m ≡ false → d.is_over m (own_state d v m (v.timed m)) ≡ true
  pub later : (m c : ℕ) → candidate d v m ≡ Some c → t ≤ c

-- the answer to a query in clock c, where an undecided one counts as not possible
abbrev pub answer : Known → ℕ → Bool
answer (From u) c = leb u c
answer Never c = false
answer Unknown c = false

-- a query is decided: it is known from when on it is possible, or that it never is
abbrev pub is_decided : Known → Bool
is_decided (From u) = true
is_decided Never = true
is_decided Unknown = false

abbrev pub all_decided : (Access → Known) → List Access → Bool
all_decided know [] = true
all_decided know (a ∷ xs) = (a.blocks || is_decided (know a)) && all_decided know xs

-- the flags of these accesses in clock c: true where one blocks, else the answer to the query
abbrev pub flags_at : (Access → Known) → ℕ → List Access → List Bool
flags_at know c [] = []
flags_at know c (a ∷ xs) = (a.blocks || answer (know a) c) ∷ flags_at know c xs
