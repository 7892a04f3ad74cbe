-- What an operation of a live iteration looks up is there.
use Rattle.std.specs.Prelude.{ℕ, ◌+◌, ◌<◌, ◌≤◌, length}
use Rattle.flow_design.specs.{Op, ModuleState, reach, temps_of}
use Rattle.flow_design.specs.declared.expr.Op.TheVariants.{Set, Load, Store, Read, Write, TryRead, TryWrite, Empty, Full}
use Rattle.lockstep_defs.specs.{memory_of}

-- how many registers a module and temps a live iteration has, together
abbrev pub places_in : ModuleState → ℕ → ℕ
places_in s iteration = length s.registers + length (temps_of s iteration)

-- all that an operation looks up is there: the variables of its expressions, and a word of its memory
abbrev pub IsOperationReady : ModuleState → ℕ → Op ℕ → Type 0
IsOperationReady s i (Set x e) = reach e ≤ places_in s i
IsOperationReady s i (Load x n e) = (reach e ≤ places_in s i) × (0 < length (memory_of s n))
IsOperationReady s i (Store n e a) = (reach e ≤ places_in s i) × (reach a ≤ places_in s i) × (0 < length (memory_of s n))
IsOperationReady s i (Read f x) = Unit {0}
IsOperationReady s i (Write f e) = reach e ≤ places_in s i
IsOperationReady s i (TryRead f x ok) = Unit {0}
IsOperationReady s i (TryWrite f ok e) = reach e ≤ places_in s i
IsOperationReady s i (Empty f x) = Unit {0}
IsOperationReady s i (Full f x) = Unit {0}
