-- What always holds of the parts of a ledger.
use Rattle.std.specs.Prelude.{◌≡◌, ℕ, ◌+◌, ◌<◌, ◌≤◌, List, length, filter, Bool, true, false, if◌then◌else◌, Option, Some, is_some}
use Rattle.std.specs.Prelude.{unwrap_or, slice_index_or}
use Rattle.flow_design.specs.{Plan, ModuleState}
use Rattle.timing_bridge.specs.{design, HubTurn, standing_of, bearer, history_of, lent_at, opening_turned, Turned.Turned}
use Rattle.turn_lock.specs.{entries_of}
use Rattle.sim_core.specs.{CoreView, theory_of}

-- where the turns lead from the plan's opening, if they are legal
abbrev pub led_to : Plan → List HubTurn → Turned ModuleState
led_to p turns = unwrap_or (standing_of p turns) (opening_turned (design p))

-- how many turns may still note that memory ran out: one, until one did
abbrev pub spare : Bool → ℕ
spare short = (if short then 0 else 1)

-- how many modules are lent
abbrev pub lent_count : List (Option ℕ) → ℕ
lent_count passes = length (filter is_some passes)

-- the core is the one to which the turns lead, and its runs are out where they are lent there
pub record Matches (core : CoreView) (out : ℕ) (short : Bool) (at : Turned ModuleState) : Type 0 where
  pub core_is : theory_of core ≡ at.core
  pub short_is : short ≡ at.short
  -- there is one entry for each module
  pub places : length at.lent_to ≡ length core.plan.design.modules
  pub wide : length core.plan.design.modules ≤ length core.lent
  -- a module is lent to no pass but its own, and its run is then out of the core
  pub whose : (m q : ℕ) → lent_at at m ≡ Some q → q ≡ m + 1
  pub away : (m q : ℕ) → lent_at at m ≡ Some q → slice_index_or core.lent m true ≡ true
  -- until memory runs out no other run is out of the core
  pub home : short ≡ false → (m : ℕ) → m < length core.plan.design.modules → slice_index_or core.lent m true ≡ true
      → lent_at at m ≡ Some (m + 1)
  pub counted : lent_count at.lent_to ≤ out

-- the turns are a legal history of the core's plan that leads to the core, and there is room for a turn for each desk that is out
pub record KeepsTurns (core : CoreView) (turns : List HubTurn) (out : ℕ) (short : Bool) (capacity : ℕ) : Type 0 where
  pub legal : is_some (standing_of core.plan turns) ≡ true
  pub matches : Matches core out short (led_to core.plan turns)
  -- each turn is that of a pass of the hub
  pub none_else : (n : ℕ) → length core.plan.design.modules < n → length (entries_of bearer n (history_of core.plan turns)) ≡ 0
  pub room : length turns + (out + spare short) ≤ capacity
