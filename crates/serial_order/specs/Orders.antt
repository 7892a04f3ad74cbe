-- Which rules of serial modules a module breaks, in which order, and the answer that follows.
use Rattle.std.specs.Prelude.{ℕ, ◌<◌, ◌≤◌, ◌-◌, ◌^◌, ◌==◌, ◌&&◌, ◌||◌, nat_le, nat_lt, min, max, Bool, List, [], ◌∷◌, ◌++◌, length, map}
use Rattle.std.specs.Prelude.{filter, flat_map, fold, slice_index_or, Option, Some, None, unwrap_or}
use Rattle.std.specs.List.{list_any, enumerate_from, range_with_len}
use Rattle.flow_design.specs.{declared.limits.TheConstants.CHANNELS, declared.design.Module.Module, BlockKind, Timed, Block, Design}
use Rattle.flow_design.specs.{IsModuleSound, declared.design.BlockKind.TheVariants.Plain, declared.design.BlockKind.TheVariants.Loop}
use Rattle.lockstep_defs.specs.{is_query, no_module}
use Rattle.serial_order.specs.{declared.order.Used.Used, declared.order.Order.Order, Uses.writes, Uses.is_use}
use Rattle.serial_order.specs.declared.order.Used.TheVariants.{Register, Memory, Reading, Writing}
use Rattle.serial_order.specs.declared.order.Order.TheVariants.{Serial, Query, Late, Wide}

-- ---- the modules of a design

abbrev pub module_in : Design → ℕ → Module
module_in design i = slice_index_or design.modules i no_module

-- the design has a module of this number, which keeps the static rules and the limits; so does the number of channels
pub record DesignHasModule (design : Design) (i : ℕ) : Type 0 where
  pub in_range : i < length design.modules
  pub sound : IsModuleSound (length design.channels) (module_in design i)
  pub channels : length design.channels ≤ CHANNELS

-- ---- lists

-- the first item of a list, if it has one
abbrev pub head : {A : Type 0} → List A → Option A
head [] = None
head (x ∷ xs) = Some x

-- the numbers of the operations that pass a test, in text order
abbrev pub numbers_where : (Timed → Bool) → List Timed → List ℕ
numbers_where test ops = map (λ t. t.0) (filter (λ t. test t.1) (enumerate_from 0 ops))

-- ---- first rule: no queries

-- the query operations of a block, each by the numbers of the block and of the operation
abbrev pub query_orders : ℕ × Block → List Order
query_orders b = map (Query b.0) (numbers_where (λ t. is_query t.op) (b.1).ops)

-- ---- second rule: the loop's register is written early

-- the operation writes the loop's register at an offset of II or more
abbrev pub writes_late : ℕ → ℕ → Timed → Bool
writes_late ii again t = nat_le ii t.offset && writes (Register again) t.op

abbrev pub lates_of : ℕ → ℕ → ℕ → List Timed → List Order
lates_of number ii again ops = map (Late number) (numbers_where (writes_late ii again) ops)

-- ---- third rule: iterations use a thing one after the other

-- the offsets at which operations use the thing, in text order
abbrev pub offsets_of_use : Used → List Timed → List ℕ
offsets_of_use thing ops = map (λ t. t.offset) (filter (is_use thing) ops)

-- the least offset at which an operation uses the thing; the greatest word where none does
abbrev pub first_use : Used → List Timed → ℕ
first_use thing ops = fold min (2 ^ 64 - 1) (offsets_of_use thing ops)

-- the greatest offset at which an operation uses the thing; 0 where none does
abbrev pub last_use : Used → List Timed → ℕ
last_use thing ops = fold max 0 (offsets_of_use thing ops)

-- an operation at this offset writes the thing
abbrev pub is_written_at : ℕ → Used → List Timed → Bool
is_written_at offset thing ops = list_any (λ t. (t.offset == offset) && writes thing t.op) ops

-- the last offset of use minus the first is more than II; or it equals II, and an operation at the last offset writes the thing
abbrev pub is_wide : ℕ → List Timed → Used → Bool
is_wide ii ops thing =
    let reach = last_use thing ops - first_use thing ops in
    nat_lt ii reach || ((reach == ii) && is_written_at (last_use thing ops) thing ops)

-- everything that a module can use, by the numbers of registers, memories and channels: each of these, a channel with both its ends
abbrev pub things : ℕ → ℕ → ℕ → List Used
things registers memories channels =
    ((map Register (range_with_len 0 registers) ++ map Memory (range_with_len 0 memories)) ++ map Reading (range_with_len 0 channels))
    ++ map Writing (range_with_len 0 channels)

abbrev pub things_of : ℕ → Module → List Used
things_of channels m = things (length m.registers) (length m.memories) channels

abbrev pub wides_of : ℕ → Module → ℕ → ℕ → List Timed → List Order
wides_of channels m number ii ops = map (Wide number) (filter (is_wide ii ops) (things_of channels m))

-- ---- the answer

-- all breaches of the rules of loops in a block, in order
abbrev pub faults_by : ℕ → Module → ℕ → List Timed → BlockKind → List Order
faults_by channels m number ops Plain = []
faults_by channels m number ops (Loop ii again) = lates_of number ii again ops ++ wides_of channels m number ii ops

abbrev pub faults_of : ℕ → Module → ℕ × Block → List Order
faults_of channels m b = faults_by channels m b.0 (b.1).ops (b.1).kind

-- all breaches of the rules in a module: first its queries, then block by block the breaches of the rules of loops
abbrev pub all_faults : ℕ → Module → List Order
all_faults channels m =
    flat_map query_orders (enumerate_from 0 m.blocks) ++ flat_map (faults_of channels m) (enumerate_from 0 m.blocks)

-- the first breach of the rules in the module; `Serial` where there is none
abbrev pub order_of : Design → ℕ → Order
order_of design i = unwrap_or (head (all_faults (length design.channels) (module_in design i))) Serial
