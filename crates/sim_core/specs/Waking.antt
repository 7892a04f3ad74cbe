-- Of which modules something may be permitted, as far as it is known.
use Rattle.std.specs.Prelude.{◌≡◌, ℕ, ◌<◌, List, length}
use Rattle.flow_design.specs.{Plan, ModuleState}
use Rattle.module_sets.specs.{Mask, Has, HasMask, capacity}
use Rattle.event_timing.specs.{Core.Core, MayRun}
use Rattle.timing_bridge.specs.{design}
use Rattle.engine_view.specs.{Timing}
use Rattle.engine_view.specs.declared.turn.Timing.TheVariants.{Assigned, Answered, Differs, Nothing}
use Rattle.sim_core.specs.{Asking.Lacks, Asking.SetHasRoom, Asking.AreAsking, declared.due.DueModules.DueModules}

-- of a module that is not in the set no Run is permitted
pub record AreWaking (p : Plan) (x : Core ModuleState) (running : List ℕ) : Type 0 where
  pub room : SetHasRoom p running
  pub none : (n : ℕ) → n < length p.design.modules → Lacks running n → MayRun (design p) x n → ⊥

-- of a module that is in neither set nothing is permitted, but perhaps an Earliest
pub record AreDue (p : Plan) (x : Core ModuleState) (due : DueModules) : Type 0 where
  pub asking_are : AreAsking p x due.asking
  pub running_are : AreWaking p x due.running

abbrev pub IsOutside : DueModules → ℕ → Type 0
IsOutside due n = Lacks due.asking n × Lacks due.running n

-- ---- what changes a set

-- each module for which there is room is in the set
abbrev pub IsFull : List ℕ → Type 0
IsFull set = (n : ℕ) → n < capacity set → Has set n

-- the set has the modules that it had, module m, and the modules of these masks
pub record IsSpread (old : List ℕ) (masks : List Mask) (m : ℕ) (new : List ℕ) : Type 0 where
  pub room : length new ≡ length old
  pub kept : (n : ℕ) → Lacks new n → Lacks old n
  pub own : m < capacity old → Has new m
  pub beside : (n : ℕ) → n < capacity old → Lacks new n → HasMask masks n → ⊥

-- after an Answer the set has the module and those of these masks too; otherwise it is as it was
abbrev pub IsWoken : Timing → List ℕ → List Mask → ℕ → List ℕ → Type 0
IsWoken (Assigned c) old masks m new = new ≡ old
IsWoken (Answered c) old masks m new = IsSpread old masks m new
IsWoken (Differs q) old masks m new = new ≡ old
IsWoken Nothing old masks m new = new ≡ old
