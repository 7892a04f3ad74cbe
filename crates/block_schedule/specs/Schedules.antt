-- What a schedule holds of its block.
use Rattle.std.specs.Prelude.{ℕ, ◌≡◌, ◌+◌, ◌-◌, ◌*◌, ◌/◌, ◌%◌, ◌==◌, ◌<◌, ◌≤◌, List, map, filter, flat_map, length, slice_index_or, All}
use Rattle.std.specs.Prelude.{IsPermutation, slice_range}
use Rattle.std.specs.{List.enumerate_from, List.Sorted.IsNonDecreasingBy}
use Rattle.flow_design.specs.declared.limits.TheConstants.{BLOCK_CLOCKS, LIVE_ITERATIONS, OPERATIONS}
use Rattle.flow_design.specs.{Block, Timed, interval, due_at}
use Rattle.block_schedule.specs.{declared.schedule.DueRange.DueRange, declared.schedule.Schedule.Schedule, declared.tables.Slot.Slot}

-- ---- ranks

-- the rank of an offset p + age * II: by its phase p first, and in a phase from the greatest age down
abbrev pub rank : ℕ → ℕ → ℕ
rank ii offset = offset % ii * LIVE_ITERATIONS + (LIVE_ITERATIONS - 1 - offset / ii)

-- the slot of an operation, which stands beside its number
abbrev pub slot_of : ℕ → ℕ × Timed → Slot
slot_of ii t = record { rank = rank ii (t.1).offset; op = t.0 }

-- the operations of a rank
abbrev pub of_rank : ℕ → List Slot → List ℕ
of_rank r slots = map (λ s. s.op) (filter (λ s. s.rank == r) slots)

-- from the first of the slots that is not below one rank up to the first that is not below another
pub record IsRange (slots : List Slot) (first end from to : ℕ) : Type 0 where
  pub rises : from ≤ to
  pub to_inside : to ≤ length slots
  pub below : (k : ℕ) (d : Slot) → k < from → (slice_index_or slots k d).rank < first
  pub not_below : (k : ℕ) (d : Slot) → from ≤ k → k < length slots → first ≤ (slice_index_or slots k d).rank
  pub before_end : (k : ℕ) (d : Slot) → k < to → (slice_index_or slots k d).rank < end
  pub at_end : (k : ℕ) (d : Slot) → to ≤ k → k < length slots → end ≤ (slice_index_or slots k d).rank

-- for each phase, in order, the range of its slots among these
abbrev pub ArePhases : List Slot → List (ℕ × ℕ) → Type 0
ArePhases slots phases = (p : ℕ) (d : ℕ × ℕ) → p < length phases
    → IsRange slots (p * LIVE_ITERATIONS) (p * LIVE_ITERATIONS + LIVE_ITERATIONS)
    (slice_index_or phases p d).0 (slice_index_or phases p d).1

-- ---- schedules

-- the limits that a schedule needs of its block: those of II and LEN, of the offsets, and of the number of operations
pub record KeepsLimits (b : Block) : Type 0 where
  pub some : 1 ≤ interval b
  pub short : interval b ≤ b.len
  pub span : b.len ≤ LIVE_ITERATIONS * interval b
  pub most : b.len ≤ BLOCK_CLOCKS
  pub in_block : All (λ t. t.offset < b.len) b.ops
  pub count : length b.ops ≤ OPERATIONS

-- the schedule of a block that keeps the limits: a slot of each operation, by rank, and those of a rank in text order
pub record IsScheduleOf (b : Block) (s : Schedule) : Type 0 where
  pub same_interval : s.interval ≡ interval b
  pub same_len : s.len ≡ b.len
  pub limits : KeepsLimits b
  pub slots : IsPermutation (map (slot_of (interval b)) (enumerate_from 0 b.ops)) s.slots.items
  pub in_order : IsNonDecreasingBy (λ t. t.rank) s.slots.items
  pub operations : (offset : ℕ) → offset < b.len → of_rank (rank (interval b) offset) s.slots.items ≡ due_at b offset
  pub phases : ArePhases s.slots.items s.phases.items

-- ---- what is due

-- the operations at these ages, each beside the place of its age among them
abbrev pub due_at_ages : Block → List ℕ → List (ℕ × ℕ)
due_at_ages b ages = flat_map (λ it. map (λ n. (it.0, n)) (due_at b it.1)) (enumerate_from 0 ages)

-- the slots of a range
abbrev pub slots_in : Schedule → DueRange → List Slot
slots_in s due = slice_range s.slots.items due.from due.to

-- a slot's place after a rank, and its operation
abbrev pub placed : ℕ → Slot → ℕ × ℕ
placed oldest t = (t.rank - oldest, t.op)

-- a slot of an operation of the block, and of one of so many ranks
pub record IsSlotOf (b : Block) (oldest live : ℕ) (t : Slot) : Type 0 where
  pub from : oldest ≤ t.rank
  pub to : t.rank < oldest + live
  pub op : t.op < length b.ops
