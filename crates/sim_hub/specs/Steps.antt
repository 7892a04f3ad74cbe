-- What the work of a turn needs of its pass, and what it does to the history.
use Rattle.std.specs.Prelude.{◌≡◌, ℕ, ◌+◌, List, [], ◌∷◌, ◌++◌, length, Bool, true, false}
use Rattle.run_ahead.specs.{Burst}
use Rattle.timing_bridge.specs.{HubEntry, HubTurn, taker, bearer, declared.entry.HubEntry.TheVariants.Turn}
use Rattle.timing_bridge.specs.declared.turn.HubTurn.TheVariants.{Lent, Ran, Timed, Short}
use Rattle.turn_lock.specs.{PassView, Continues, EndsTurn}
use Rattle.sim_hub.specs.{declared.answer.Desk.Desk, declared.answer.PerfAnswer.PerfAnswer}
use Rattle.sim_hub.specs.Places.{HoldsAfter, HasModule, HasDesk, HasNoDesk}
use Rattle.sim_hub.specs.Hubs.{IsDesk, IsDeskBurst, IsHeld, IsHubIdle, IsHubDone, WasShort, HadMemory}
use Rattle.sim_hub.specs.declared.answer.Desk.TheVariants as desk
use Rattle.sim_hub.specs.declared.answer.PerfAnswer.TheVariants as perf

-- ---- before

-- the pass of module m took the turn that found this history, with no desk out
pub record ComesHome (m : ℕ) (log : List HubEntry) : Type 0 where
  pub before : PassView HubEntry
  pub number : before.number ≡ m + 1
  pub continues : Continues bearer before log
  pub within : HasModule m before.seen
  pub home : HasNoDesk m before.seen

-- the pass of module m took the turn that found this history, with its desk out and a burst on it
pub record ComesBack (m : ℕ) (burst : Burst) (log : List HubEntry) : Type 0 where
  pub before : PassView HubEntry
  pub number : before.number ≡ m + 1
  pub continues : Continues bearer before log
  pub out : HasDesk m before.seen
  pub is_burst : IsDeskBurst m before.seen burst

-- ---- after the work

-- this turn was added to the history
abbrev pub Adds : HubTurn → List HubEntry → List HubEntry → Type 0
Adds turn log more = more ≡ log ++ Turn turn ∷ []

-- memory ran out in this turn, which was added, or it ran out before
abbrev pub ShortIs : ℕ → List HubEntry → List HubEntry → Bool → Type 0
ShortIs q log more true = Adds (Short q) log more × HoldsAfter log HadMemory
ShortIs q log more false = (more ≡ log) × HoldsAfter log WasShort

-- what a lending does to the history; the second answer tells whether it added a turn
abbrev pub LendingIs : ℕ → List HubEntry → List HubEntry → Desk → Bool → Type 0
LendingIs m log more (desk.Run task) added = (added ≡ true) × Adds (Lent (m + 1) m) log more × IsDesk m log task
LendingIs m log more (desk.Held n) added = (added ≡ false) × (more ≡ log) × (n ≡ length log) × HoldsAfter log (IsHeld m)
LendingIs m log more desk.Over added = (added ≡ false) × (more ≡ log) × HoldsAfter log IsHubDone
LendingIs m log more desk.Short added = ShortIs (m + 1) log more added

-- a turn with n Runs of module m was added, or one that notes that memory ran out
abbrev pub BackIs : ℕ → ℕ → List HubEntry → List HubEntry → Bool → Type 0
BackIs m n log more true = Adds (Ran (m + 1) m n) log more
BackIs m n log more false = Adds (Short (m + 1)) log more

-- what a turn of the performance pass does to the history; the second answer tells whether it added a turn
abbrev pub TimingIs : List HubEntry → List HubEntry → PerfAnswer → Bool → Type 0
TimingIs log more (perf.Did n) added = (added ≡ true) × Adds (Timed 0 n) log more
TimingIs log more (perf.Idle n) added = (added ≡ false) × (more ≡ log) × (n ≡ length log) × HoldsAfter log IsHubIdle
TimingIs log more perf.Over added = (added ≡ false) × (more ≡ log) × HoldsAfter log IsHubDone
TimingIs log more perf.Short added = ShortIs 0 log more added

-- one turn of pass q was added, or nothing
abbrev pub MayAdd : ℕ → Bool → List HubEntry → List HubEntry → Type 0
MayAdd q true log more = (turn : HubTurn) × Adds turn log more × (taker turn ≡ q)
MayAdd q false log more = more ≡ log

-- the turn v ends, and the pass then knows w: with the entry that was added, or with none
abbrev pub IsTurnEnd : Bool → List HubEntry → List HubEntry → PassView HubEntry → PassView HubEntry → Type 0
IsTurnEnd true log more v w = (turn : HubTurn) → Adds turn log more → EndsTurn (Turn turn ∷ []) more v w
IsTurnEnd false log more v w = EndsTurn [] more v w
