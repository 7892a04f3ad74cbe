-- Legal histories of turns as a relation: what each turn is, as actions of the core.
use Rattle.std.specs.Prelude.{◌≡◌, ℕ, ◌<◌, ◌≤◌, ◌⊎◌, ⊤, false, List, [], ◌∷◌, length, None, Some}
use Rattle.event_timing.specs.{Design, Action, ActsAll, MayRun, MayAssign, MayAnswer, MayEarliest, IsOpen, runs, AreTimings}
use Rattle.event_timing.specs.{Core.Core, Actions.Action.Earliest}
use Rattle.timing_bridge.specs.declared.turn.HubTurn.{HubTurn}
use Rattle.timing_bridge.specs.declared.turn.HubTurn.TheVariants.{Lent, Ran, Timed, Short}
use Rattle.timing_bridge.specs.Turned.{Turned, lent_at, after_lent, after_ran, after_timed, after_short}

-- no Assign and no Answer of any module is permitted
pub record NoTiming {S : Type 0} (d : Design S) (limit : ℕ) (x : Core S) : Type 0 where
  pub no_assign : (m c : ℕ) → MayAssign d limit x m c → ⊥
  pub no_answer : (m c : ℕ) → MayAnswer d limit x m c → ⊥

-- n Assigns and Answers, each permitted, lead from x to y, in which no further one is permitted
pub record IsTimedTo {S : Type 0} (d : Design S) (limit : ℕ) (x : Core S) (n : ℕ) (y : Core S) : Type 0 where
  pub actions : List Action
  pub timings : AreTimings actions
  pub count : length actions ≡ n
  pub acts : ActsAll d limit x actions y
  pub none_left : NoTiming d limit y

-- one Earliest leads from x to y: that of the first module with the least cycle
pub record IsEarliestTo {S : Type 0} (d : Design S) (limit : ℕ) (x y : Core S) : Type 0 where
  pub owner : ℕ
  pub cycle : ℕ
  pub may : MayEarliest d limit x owner cycle
  pub first : (m : ℕ) → m < owner → IsOpen d limit x m cycle → ⊥
  pub acts : ActsAll d limit x (Earliest owner ∷ []) y

-- a turn is legal in v, and leads to w
abbrev pub IsTurnOf : {S : Type 0} → Design S → ℕ → Turned S → HubTurn → Turned S → Type 0
IsTurnOf {S} d limit v (Lent q m) w = (v.short ≡ false) × MayRun d v.core m × (lent_at v m ≡ None) × (w ≡ after_lent v q m)
IsTurnOf {S} d limit v (Ran q m n) w =
    (lent_at v m ≡ Some q) × (1 ≤ n) × ActsAll d limit v.core (runs n m) w.core × (w ≡ after_ran v m w.core)
IsTurnOf {S} d limit v (Timed q n) w =
    (v.short ≡ false) × (1 ≤ n) × (IsTimedTo d limit v.core n w.core ⊎ (n ≡ 1) × IsEarliestTo d limit v.core w.core)
    × (w ≡ after_timed v w.core)
IsTurnOf {S} d limit v (Short q) w = w ≡ after_short v q

-- these turns are legal one after the other, and lead from v to w
abbrev pub TurnsOf : {S : Type 0} → Design S → ℕ → Turned S → List HubTurn → Turned S → Type 0
TurnsOf {S} d limit v [] w = w ≡ v
TurnsOf {S} d limit v (turn ∷ more) w = (u : Turned S) × IsTurnOf d limit v turn u × TurnsOf d limit u more w

-- the pass that took a turn
abbrev pub taker : HubTurn → ℕ
taker (Lent q m) = q
taker (Ran q m n) = q
taker (Timed q n) = q
taker (Short q) = q

-- pass q took none of these turns
abbrev pub AreOfOthers : ℕ → List HubTurn → Type 0
AreOfOthers q [] = ⊤
AreOfOthers q (turn ∷ more) = (taker turn ≡ q → ⊥) × AreOfOthers q more
