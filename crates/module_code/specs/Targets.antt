-- Where an operation's value goes.
use Rattle.std.specs.{Prelude.ℕ, Prelude.◌≡◌, Prelude.slice_set, Int.Bits.bit_and}
use Rattle.flow_design.specs.{Block, ModuleState, temps_of, declared.design.Module.Module, declared.state.Effect.TheVariants.Variable}
use Rattle.lockstep_defs.specs.{memory_of, stored}
use Rattle.module_code.specs.declared.target.Target.{Target}
use Rattle.module_code.specs.declared.target.Target.TheVariants.{Register, Temp}

-- the state after a value, cut by the target's mask, went into its register, or into its temp of a live iteration
abbrev pub put_value : ModuleState → ℕ → Target → ℕ → ModuleState
put_value s i (Register x mask) v = record s { registers = slice_set s.registers x (bit_and v mask) }
put_value s i (Temp t mask) v = record s { temps = slice_set s.temps i (slice_set (temps_of s i) t (bit_and v mask)) }

-- the state after a word went to an address of a memory
abbrev pub put_word : ModuleState → ℕ → ℕ → ℕ → ModuleState
put_word s n address word = record s { memories = slice_set s.memories n (slice_set (memory_of s n) address word) }

-- putting a value into the target has the effect of writing the variable
abbrev pub IsTargetOf : Module → Block → Target → ℕ → Type 0
IsTargetOf m b target x = (s : ModuleState) (i v : ℕ) → put_value s i target v ≡ stored m b s (Variable i x v)
