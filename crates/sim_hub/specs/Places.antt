-- What a pass of a hub knows, between two turns and after one.
use Rattle.std.specs.Prelude.{◌≡◌, ℕ, ◌+◌, ◌<◌, List, [], ◌∷◌, ◌++◌, length, Some}
use mathlib.Core.List.{IsPrefix}
use Rattle.flow_design.specs.{Plan, ModuleState}
use Rattle.turn_lock.specs.{PassView, entries_of, BeginsTurn, EndsTurn}
use Rattle.timing_bridge.specs.{HubEntry, HubTurn, bearer, Stands, lent_at, declared.entry.HubEntry.TheVariants.Turn, Turned.Turned}

-- the history is a legal one of a plan that the engine takes
pub record IsLegal (seen : List HubEntry) : Type 0 where
  pub plan : Plan
  pub at : Turned ModuleState
  pub stands : Stands plan seen at

-- the pass with number n has seen a legal history, in which its own entries are those that bear n
pub record IsPlace (n : ℕ) (v : PassView HubEntry) : Type 0 where
  pub own : v.own ≡ entries_of bearer n v.seen
  pub legal : IsLegal v.seen

-- the history is one of a plan with this many modules
abbrev pub HasModules : ℕ → List HubEntry → Type 0
HasModules count seen = ∥ ((l : IsLegal seen) × (length l.plan.design.modules ≡ count)) ∥₁

-- module m is one of the history's plan
abbrev pub HasModule : ℕ → List HubEntry → Type 0
HasModule m seen = ∥ ((l : IsLegal seen) × (m < length l.plan.design.modules)) ∥₁

-- the first pass has made one pass for each module, and none was joined
pub record HasMadeAll (v : PassView HubEntry) : Type 0 where
  pub made : HasModules v.made v.seen
  pub joined : v.joined ≡ []

-- the first pass of a hub that was just opened with this history, after it has made `made` passes
pub record IsFirstPass (made : ℕ) (seen : List HubEntry) (v : PassView HubEntry) : Type 0 where
  pub number : v.number ≡ 0
  pub made_is : v.made ≡ made
  pub joined : v.joined ≡ []
  pub own : v.own ≡ []
  pub seen_is : v.seen ≡ seen

-- P holds of the history's plan and of where the history leads
abbrev pub HoldsAfter : List HubEntry → (Plan → Turned ModuleState → Type 0) → Type 0
HoldsAfter seen P = (p : Plan) × (at : Turned ModuleState) × Stands p seen at × P p at

-- after this history module m's desk is out with its pass
abbrev pub HasDesk : ℕ → List HubEntry → Type 0
HasDesk m seen = HoldsAfter seen (λ p at. lent_at at m ≡ Some (m + 1))

abbrev pub HasNoDesk : ℕ → List HubEntry → Type 0
HasNoDesk m seen = HoldsAfter seen (λ p at. lent_at at m ≡ Some (m + 1) → ⊥)

-- after what a pass has seen, module m's desk is out with it
abbrev pub HasDeskOut : ℕ → PassView HubEntry → Type 0
HasDeskOut m v = HasDesk m v.seen

abbrev pub HasNoDeskOut : ℕ → PassView HubEntry → Type 0
HasNoDeskOut m v = HasNoDesk m v.seen

-- w is the pass v after one more turn
pub record IsLater (v w : PassView HubEntry) : Type 0 where
  pub begins : IsPrefix v.seen w.seen
  pub turns : w.turns ≡ v.turns + 1
  pub number : w.number ≡ v.number
  pub made : w.made ≡ v.made
  pub joined : w.joined ≡ v.joined

-- one turn of the lock led from the pass v to the pass w: it found this history, in which all that is new to the pass is of other
-- passes, and handed it back with these further entries, all of them the pass's own
pub record TookTurn (added found : List HubEntry) (v w : PassView HubEntry) : Type 0 where
  pub tries : ℕ
  pub turn : PassView HubEntry
  pub began : BeginsTurn bearer tries found v turn
  pub ended : EndsTurn added (found ++ added) turn w

-- a turn that found this history led from v to w, and added this entry
abbrev pub HasAdded : HubTurn → List HubEntry → PassView HubEntry → PassView HubEntry → Type 0
HasAdded t found v w = TookTurn (Turn t ∷ []) found v w

-- a turn led from v to w, and added no entry: the pass has seen just what it found
abbrev pub HasLooked : PassView HubEntry → PassView HubEntry → Type 0
HasLooked v w = TookTurn [] w.seen v w
