-- A module's live iterations, and which operations are due in them.
use Rattle.std.specs.Prelude.{ℕ, zero, suc, ◌+◌, ◌-◌, ◌*◌, ◌/◌, ◌==◌, min, nat_lt, Bool, true, false, not, if◌then◌else◌, Option, Some}
use Rattle.std.specs.Prelude.{None, List, [], ◌∷◌, map, filter, flat_map, slice_index_or}
use Rattle.std.specs.List.{enumerate_from}
use Rattle.flow_design.specs.{declared.expr.Op.TheVariants.Full, declared.design.BlockKind.BlockKind, declared.design.Next.TheVariants.Stop}
use Rattle.flow_design.specs.{declared.design.Timed.Timed, declared.design.Block.Block, declared.design.Module.Module}
use Rattle.flow_design.specs.{declared.state.Control.Control, declared.state.Due.Due, Words.variable}
use Rattle.flow_design.specs.declared.design.BlockKind.TheVariants.{Plain, Loop}
use Rattle.flow_design.specs.declared.state.ModuleState.{ModuleState}

-- ---- blocks

-- the default where a number names no block: a block that is over at once
abbrev pub no_block : Block
no_block = record { kind = Plain; len = 0; temps = []; ops = []; next = Stop }

-- the default where a number names no operation
abbrev pub no_operation : Timed
no_operation = record { offset = 0; guard = None; op = Full 0 0 }

abbrev pub block_at : Module → ℕ → Block
block_at m n = slice_index_or m.blocks n no_block

-- the block in which a module stands
abbrev pub block_of : Module → ModuleState → Block
block_of m s = block_at m s.control.block

abbrev pub operation_at : Block → ℕ → Timed
operation_at b n = slice_index_or b.ops n no_operation

abbrev pub is_loop : BlockKind → Bool
is_loop Plain = false
is_loop (Loop ii again) = true

-- the local clocks between the starts of two iterations: II of a loop, and LEN of a plain block
abbrev pub interval_of : BlockKind → ℕ → ℕ
interval_of Plain len = len
interval_of (Loop ii again) len = ii

abbrev pub interval : Block → ℕ
interval b = interval_of b.kind b.len

-- ---- live iterations

-- how many iterations are live: those that started at newest, newest - II and so on, from local clock 0 on, and are
-- younger than LEN
abbrev pub live_count : Block → Control → ℕ
live_count b k =
    let age = k.clock - k.newest in
    if nat_lt age b.len then 1 + min (k.newest / interval b) ((b.len - 1 - age) / interval b) else 0

-- n ages, II apart, of which the least is the given one; the greatest stands first
abbrev pub ages_down : ℕ → ℕ → ℕ → List ℕ
ages_down ii age zero = []
ages_down ii age (suc n) = (age + n * ii) ∷ ages_down ii age n

-- the ages of the live iterations, the oldest first
unfoldable pub ages : Block → Control → List ℕ
ages b k = ages_down (interval b) (k.clock - k.newest) (live_count b k)

-- the temps of a live iteration, which is named by its place among the live ones
abbrev pub temps_of : ModuleState → ℕ → List ℕ
temps_of s iteration = slice_index_or s.temps iteration []

-- ---- due operations

-- a guard lets its operation be done: there is none, or it is not 0
abbrev pub passes : List ℕ → List ℕ → Option ℕ → Bool
passes registers temps None = true
passes registers temps (Some guard) = not (variable registers temps guard == 0)

-- the numbers of a block's operations at an offset, in text order
unfoldable pub due_at : Block → ℕ → List ℕ
due_at b offset = map (λ t. t.0) (filter (λ t. (t.1).offset == offset) (enumerate_from 0 b.ops))

-- the due operations of a live iteration, which is given by its place and its age
abbrev pub due_in : Block → ModuleState → ℕ × ℕ → List Due
due_in b s it =
    map (λ n. record { iteration = it.0; op = n })
    (filter (λ n. passes s.registers (temps_of s it.0) (operation_at b n).guard) (due_at b it.1))

-- all due operations, in commit order: the oldest iteration first, then text order
unfoldable pub due : Module → ModuleState → List Due
due m s = flat_map (due_in (block_of m s) s) (enumerate_from 0 (ages (block_of m s) s.control))
