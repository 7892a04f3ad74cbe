-- What the rules of reading give of a plan at a scale: all that the engine needs, except what the rules of checking test.
use Rattle.std.proofs.Common.{◌≡◌, ℕ, ◌+◌, ◌<◌, ◌≤◌, length, sum_by, IsTrue, IfSome}
use Rattle.std.specs.{List.All, Prelude.slice_index, Prelude.slice_index_or, Prelude.[]}
use Rattle.flow_design.specs.{Scale, limits_at, BlockKind, Next, Timed, Block, Memory, Plan, is_name, no_channel, kind_at, places_written}
use Rattle.flow_design.specs.{expressions_of, memory_used, port_of, IsExpressionSound, AreEntriesSound}
use Rattle.flow_design.specs.declared.design.Module.{Module}
use Rattle.flow_design.specs.declared.design.BlockKind.TheVariants.{Plain, Loop}
use Rattle.flow_design.specs.declared.design.Next.TheVariants.{Goto, Branch, Stop}

pub record IsTimedRead (channels : ℕ) (m : Module) (b : Block) (t : Timed) : Type 0 where
  pub guard : IfSome t.guard (λ g. g < length m.registers + length b.temps)
  pub places : All (λ x. x < length m.registers + length b.temps) (places_written t.op)
  pub expressions : All (IsExpressionSound (length m.registers + length b.temps)) (expressions_of t.op)
  pub memory : IfSome (memory_used t.op) (λ n. n < length m.memories)
  pub channel : IfSome (port_of t.op) (λ a. a.channel < channels)

abbrev pub IsKindRead : ℕ → BlockKind → Type 0
IsKindRead registers Plain = Unit {0}
IsKindRead registers (Loop ii again) = (1 ≤ ii) × (again < registers)

abbrev pub IsNextRead : ℕ → Next → Type 0
IsNextRead registers (Goto n) = Unit {0}
IsNextRead registers (Branch r n o) = r < registers
IsNextRead registers Stop = Unit {0}

pub record IsBlockRead (scale : Scale) (channels : ℕ) (m : Module) (b : Block) : Type 0 where
  pub least : 1 ≤ b.len
  pub most : b.len ≤ (limits_at scale).block_clocks
  pub kind : IsKindRead (length m.registers) b.kind
  pub temps : length b.temps ≤ (limits_at scale).temps
  pub count : length b.ops ≤ (limits_at scale).operations
  pub operations : All (IsTimedRead channels m b) b.ops
  pub next : IsNextRead (length m.registers) b.next

pub record IsMemoryRead (scale : Scale) (memory : Memory) : Type 0 where
  pub least : 1 ≤ memory.len
  pub most : memory.len ≤ (limits_at scale).memory_words

pub record IsModuleRead (scale : Scale) (channels : ℕ) (m : Module) : Type 0 where
  pub name : IsTrue (is_name m.name)
  pub registers : length m.registers ≤ (limits_at scale).registers
  pub memories : length m.memories ≤ (limits_at scale).memories
  pub words : All (IsMemoryRead scale) m.memories
  pub some : 1 ≤ length m.blocks
  pub count : length m.blocks ≤ (limits_at scale).blocks
  pub blocks : All (IsBlockRead scale channels m) m.blocks

pub record IsPlanRead (scale : Scale) (plan : Plan) : Type 0 where
  pub channel_count : length plan.design.channels ≤ (limits_at scale).channels
  pub module_count : length plan.design.modules ≤ (limits_at scale).modules
  pub inputs : length plan.inputs ≡ length plan.design.channels
  pub depths : length plan.depths ≡ length plan.design.channels
  pub input_count : sum_by length plan.inputs ≤ (limits_at scale).input_values
  pub names : (f : ℕ) → f < length plan.design.channels
      → IsTrue (is_name (slice_index_or plan.design.channels f no_channel).name)
  pub entries : (f : ℕ) → f < length plan.design.channels
      → AreEntriesSound (kind_at plan f) (slice_index_or plan.inputs f []) (slice_index plan.depths f)
  pub deep : All (λ depth. depth ≤ (limits_at scale).fifo_depth) plan.depths
  pub modules : All (IsModuleRead scale (length plan.design.channels)) plan.design.modules
