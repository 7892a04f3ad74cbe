-- Which value a place holds after a commit.
use Rattle.std.specs.Prelude.{ℕ, ◌≡◌, ◌+◌, ◌<◌, ◌==◌, Bool, false, ◌&&◌, Option, Some, None, List, length, map, find, reverse, slice_index}
use Rattle.flow_design.specs.{Block, Effect, ModuleState, temps_of, cut_to, declared.design.Module.Module}
use Rattle.flow_design.specs.declared.state.Effect.TheVariants.{Variable, Word}
use Rattle.lockstep_defs.specs.Machine.{memory_of}

-- the effect writes register x
abbrev pub writes_register : ℕ → Effect → Bool
writes_register x (Variable i y v) = y == x
writes_register x (Word n a v) = false

-- the effect writes temp t of iteration i, where the module has this many registers
abbrev pub writes_temp : ℕ → ℕ → ℕ → Effect → Bool
writes_temp registers i t (Variable j y v) = (j == i) && (y == registers + t)
writes_temp registers i t (Word n a v) = false

-- the effect writes the word of memory n at address a
abbrev pub writes_word : ℕ → ℕ → Effect → Bool
writes_word n a (Variable i y v) = false
writes_word n a (Word k b v) = (k == n) && (b == a)

abbrev pub written : Effect → ℕ
written (Variable i y v) = v
written (Word n a v) = v

-- the value that an effect writes, cut to a width, or the value from before where there is no effect
abbrev pub cut_or_kept : ℕ → ℕ → Option Effect → ℕ
cut_or_kept width before None = before
cut_or_kept width before (Some e) = cut_to width (written e)

-- what a place of this width holds after these effects: the value of the last effect that writes it, or else what it held before
abbrev pub last_value : (Effect → Bool) → ℕ → ℕ → List Effect → ℕ
last_value writes width before es = cut_or_kept width before (find writes (reverse es))

-- after these effects each register, each temp of each live iteration and each memory word holds the last value written to it
pub record LastWins (m : Module) (b : Block) (es : List Effect) (s after : ModuleState) : Type 0 where
  pub registers : (x : ℕ) → x < length m.registers
      → slice_index after.registers x ≡ last_value (writes_register x) (slice_index m.registers x) (slice_index s.registers x) es
  pub temps : (i t : ℕ) → i < length s.temps → t < length b.temps
      → slice_index (temps_of after i) t
      ≡ last_value (writes_temp (length m.registers) i t) (slice_index b.temps t) (slice_index (temps_of s i) t) es
  pub words : (n a : ℕ) → n < length m.memories → a < length (memory_of s n)
      → slice_index (memory_of after n) a
      ≡ last_value (writes_word n a) (slice_index (map (λ memory. memory.width) m.memories) n) (slice_index (memory_of s n) a) es
