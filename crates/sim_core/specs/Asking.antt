-- The modules for which an Assign or an Answer may be permitted, as far as it is known.
use Rattle.std.specs.Prelude.{◌≡◌, ℕ, ◌<◌, ◌≤◌, false, List, [], length, slice_get, slice_index_or, Some}
use Rattle.flow_word.specs.{other_side, Port}
use Rattle.flow_design.specs.{Plan, ModuleState}
use Rattle.module_sets.specs.{Mask, Has, HasMask, capacity}
use Rattle.event_timing.specs.Core.{Core}
use Rattle.timing_bridge.specs.{design, AreApart, may_time}

-- module n is not in the set
abbrev pub Lacks : List ℕ → ℕ → Type 0
Lacks set n = Has set n → ⊥

-- the set has room for each module of the plan
abbrev pub SetHasRoom : Plan → List ℕ → Type 0
SetHasRoom p set = length p.design.modules ≤ capacity set

-- the set has the modules at the other sides of the channels of the first n ports
abbrev pub AreAcrossTo : Plan → List Port → ℕ → List ℕ → Type 0
AreAcrossTo p ports many set = (i : ℕ) (port : Port) → i < many → slice_get ports i ≡ Some port → (n : ℕ)
    → n < length p.design.modules → (design p).owner (other_side port.side) port.channel ≡ n → Has set n

abbrev pub AreAcross : Plan → List Port → List ℕ → Type 0
AreAcross p ports set = AreAcrossTo p ports (length ports) set

-- for each of the first `many` modules there are masks that leave out only modules that share no channel with it
pub record AreBesideTo (p : Plan) (many : ℕ) (beside : List (List Mask)) : Type 0 where
  pub count : length beside ≡ many
  pub apart : (m : ℕ) → m < many → (n : ℕ) → n < length p.design.modules → (HasMask (slice_index_or beside m []) n → ⊥)
      → AreApart (design p) m n

abbrev pub AreBeside : Plan → List (List Mask) → Type 0
AreBeside p beside = AreBesideTo p (length p.design.modules) beside

-- no Assign and no Answer is permitted for a module that is not in the set
pub record AreAsking (p : Plan) (x : Core ModuleState) (asking : List ℕ) : Type 0 where
  pub room : SetHasRoom p asking
  pub idle : (n : ℕ) → n < length p.design.modules → Lacks asking n → may_time (design p) p.cycles x n ≡ false
