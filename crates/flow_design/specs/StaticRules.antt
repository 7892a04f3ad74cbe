-- Which plans the engine takes: those that keep the static rules and the limits of the language.
use Rattle.std.specs.Prelude.{◌≡◌, ℕ, ◌+◌, ◌*◌, ◌%◌, nat_eq, nat_le, ◌<◌, ◌≤◌, Bool, false, ◌&&◌, IsTrue, List, [], length, slice_index}
use Rattle.std.specs.Prelude.{if◌then◌else◌, slice_index_or, sum_by, count_by, All, AllPairs, Option, None, Some, IfSome}
use Rattle.std.specs.List.{list_any}
use Rattle.flow_word.specs.{Port, Side, same_side, declared.access.Side.TheVariants.Pop, declared.access.Side.TheVariants.Push}
use Rattle.flow_design.specs.declared.limits.TheConstants.{MODULES, CHANNELS, REGISTERS, TEMPS, MEMORIES, MEMORY_WORDS, BLOCKS, OPERATIONS}
use Rattle.flow_design.specs.declared.limits.TheConstants.{LIVE_ITERATIONS, BLOCK_CLOCKS, EXPRESSION_NODES, EXPRESSION_DEPTH, INPUT_VALUES}
use Rattle.flow_design.specs.declared.limits.TheConstants.{FIFO_DEPTH, FIFO_DELAY, CYCLES, COUNTED_OPERATIONS, LONG_BLOCK_OPERATIONS}
use Rattle.flow_design.specs.declared.limits.TheConstants.{SHORT_BLOCK_CLOCKS}
use Rattle.flow_design.specs.{declared.expr.Expr.Expr, declared.expr.Op.Op, declared.design.BlockKind.BlockKind, declared.design.Next.Next}
use Rattle.flow_design.specs.{declared.design.ChannelKind.ChannelKind, declared.design.Timed.Timed, declared.design.Block.Block}
use Rattle.flow_design.specs.{declared.design.Memory.Memory, declared.design.Module.Module, declared.plan.Plan.Plan, Words.reach}
use Rattle.flow_design.specs.{Words.nodes, Words.depth, Module.interval, Names.is_name, Plans.no_channel, Plans.kind_at}
use Rattle.flow_design.specs.declared.design.BlockKind.TheVariants.{Plain, Loop}
use Rattle.flow_design.specs.declared.design.Next.TheVariants.{Goto, Branch, Stop}
use Rattle.flow_design.specs.declared.design.ChannelKind.TheVariants.{Source, Sink, Fifo}
use Rattle.flow_design.specs.Operations.{places_written, expressions_of, memory_used, port_of, used_port}

-- ---- ports

abbrev pub same_port : Port → Port → Bool
same_port a b = same_side a.side b.side && nat_eq a.channel b.channel

abbrev pub is_port : Port → Option Port → Bool
is_port a None = false
is_port a (Some b) = same_port a b

-- some operation of the module pops (or pushes) the channel
abbrev pub uses : Port → Module → Bool
uses a m = list_any (λ b. list_any (λ t. is_port a (used_port t.op)) b.ops) m.blocks

-- how many modules must pop (or push) a channel of this kind
abbrev pub users_wanted : ChannelKind → Side → ℕ
users_wanted Source Pop = 1
users_wanted Source Push = 0
users_wanted Sink Pop = 0
users_wanted Sink Push = 1
users_wanted (Fifo depth delay) side = 1

-- ---- operations

-- an expression names only registers and temps that are there, and is within the limits of its size
pub record IsExpressionSound (places : ℕ) (e : Expr ℕ) : Type 0 where
  pub variables : reach e ≤ places
  pub size : nodes e ≤ EXPRESSION_NODES
  pub height : depth e ≤ EXPRESSION_DEPTH

-- all that an operation of module m names is there, in a design with this many channels and a body with this many temps
pub record IsOperationSound (channels : ℕ) (m : Module) (temps : ℕ) (op : Op ℕ) : Type 0 where
  pub places : All (λ x. x < length m.registers + temps) (places_written op)
  pub expressions : All (IsExpressionSound (length m.registers + temps)) (expressions_of op)
  pub memory : IfSome (memory_used op) (λ n. n < length m.memories)
  pub channel : IfSome (port_of op) (λ a. a.channel < channels)
  -- `empty` may be asked only by the channel's reader, and `full` only by its writer
  pub side : IfSome (port_of op) (λ a. IsTrue (uses a m))

-- the offset and the guard of a scheduled operation are in range, and all that the operation names is there
pub record IsTimedSound (channels : ℕ) (m : Module) (b : Block) (t : Timed) : Type 0 where
  pub offset : t.offset < b.len
  pub guard : IfSome t.guard (λ g. g < length m.registers + length b.temps)
  pub operation : IsOperationSound channels m (length b.temps) t.op

-- ---- blocks and modules

-- II, LEN and the register of a loop are in range, where the module has this many registers
pub record IsLoopSound (registers len ii again : ℕ) : Type 0 where
  pub interval : 1 ≤ ii
  pub least : ii ≤ len
  pub most : len ≤ LIVE_ITERATIONS * ii
  pub register : again < registers

abbrev pub IsKindSound : ℕ → ℕ → BlockKind → Type 0
IsKindSound registers len Plain = Unit {0}
IsKindSound registers len (Loop ii again) = IsLoopSound registers len ii again

abbrev pub IsNextSound : ℕ → ℕ → Next → Type 0
IsNextSound registers blocks (Goto n) = n < blocks
IsNextSound registers blocks (Branch r n o) = (r < registers) × (n < blocks) × (o < blocks)
IsNextSound registers blocks Stop = Unit {0}

-- port clash: two pops, or two pushes, of one channel at offsets equal modulo the interval
pub record Clashes (interval : ℕ) (t u : Timed) : Type 0 where
  pub port : Port
  pub first : used_port t.op ≡ Some port
  pub second : used_port u.op ≡ Some port
  pub offsets : t.offset % interval ≡ u.offset % interval

pub record IsBlockSound (channels : ℕ) (m : Module) (b : Block) : Type 0 where
  pub least : 1 ≤ b.len
  pub most : b.len ≤ BLOCK_CLOCKS
  pub kind : IsKindSound (length m.registers) b.len b.kind
  pub temps : length b.temps ≤ TEMPS
  pub count : length b.ops ≤ OPERATIONS
  pub operations : All (IsTimedSound channels m b) b.ops
  pub apart : AllPairs (λ t u. ¬ Clashes (interval b) t u) b.ops
  pub next : IsNextSound (length m.registers) (length m.blocks) b.next

pub record IsMemorySound (memory : Memory) : Type 0 where
  pub least : 1 ≤ memory.len
  pub most : memory.len ≤ MEMORY_WORDS

pub record IsModuleSound (channels : ℕ) (m : Module) : Type 0 where
  pub name : IsTrue (is_name m.name)
  pub registers : length m.registers ≤ REGISTERS
  pub memories : length m.memories ≤ MEMORIES
  pub words : All IsMemorySound m.memories
  pub some : 1 ≤ length m.blocks
  pub count : length m.blocks ≤ BLOCKS
  pub blocks : All (IsBlockSound channels m) m.blocks

-- ---- channels and plans

-- the entries of a channel: a source alone has inputs, and a FIFO alone has a depth; a FIFO's delay is within its limits
abbrev pub AreEntriesSound : ChannelKind → List ℕ → ℕ → Type 0
AreEntriesSound Source inputs depth = depth ≡ 0
AreEntriesSound Sink inputs depth = (inputs ≡ []) × (depth ≡ 0)
AreEntriesSound (Fifo declared delay) inputs depth = (inputs ≡ []) × (1 ≤ depth) × (depth ≤ FIFO_DEPTH) × (1 ≤ delay) × (delay ≤ FIFO_DELAY)

-- channel f of a plan keeps the static rules
pub record IsChannelSound (plan : Plan) (f : ℕ) : Type 0 where
  pub name : IsTrue (is_name (slice_index_or plan.design.channels f no_channel).name)
  pub popping : count_by (uses (record { side = Pop; channel = f })) plan.design.modules ≡ users_wanted (kind_at plan f) Pop
  pub pushing : count_by (uses (record { side = Push; channel = f })) plan.design.modules ≡ users_wanted (kind_at plan f) Push
  pub entries : AreEntriesSound (kind_at plan f) (slice_index_or plan.inputs f []) (slice_index plan.depths f)

-- the most clocks that a block may have, given how many operations each module may count: long blocks, or many operations, but not
-- both
abbrev pub longest_block : ℕ → ℕ
longest_block operations = if nat_le operations LONG_BLOCK_OPERATIONS then BLOCK_CLOCKS else SHORT_BLOCK_CLOCKS

-- the plan keeps the static rules and the limits
pub record FitsEngine (plan : Plan) : Type 0 where
  pub channel_count : length plan.design.channels ≤ CHANNELS
  pub module_count : length plan.design.modules ≤ MODULES
  pub inputs : length plan.inputs ≡ length plan.design.channels
  pub depths : length plan.depths ≡ length plan.design.channels
  pub input_count : sum_by length plan.inputs ≤ INPUT_VALUES
  pub channels : (f : ℕ) → f < length plan.design.channels → IsChannelSound plan f
  pub modules : All (IsModuleSound (length plan.design.channels)) plan.design.modules
  pub some_cycles : 1 ≤ plan.cycles
  pub cycles : plan.cycles ≤ CYCLES
  pub some_operations : 1 ≤ plan.ops
  pub operations : plan.ops ≤ COUNTED_OPERATIONS
  pub pace : All (λ m. All (λ b. b.len ≤ longest_block plan.ops) m.blocks) plan.design.modules
