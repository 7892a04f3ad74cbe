-- What a schedule gives of the ages of live iterations.
use Rattle.std.proofs.Common.{◌≡◌, sym, ◌∙◌, ap, arith, add-zero, ℕ, ◌+◌, ◌-◌, ◌*◌, ◌%◌, ◌<◌, ◌≤◌, length, map, drop, get_or}
use Rattle.std.proofs.lemmas.List.{length-map, length-take, get_or-map, get_or-take, get_or-drop}
use Rattle.std.proofs.lemmas.List.FromFn.{get_or-enumerate_from, length-enumerate_from}
use Rattle.std.proofs.lemmas.List.Sorted.{All-permutation}
use Rattle.std.specs.{Prelude.All, Prelude.slice_range, List.enumerate_from}
use Rattle.flow_design.specs.declared.limits.TheConstants.{LIVE_ITERATIONS}
use Rattle.block_schedule.specs.{Block, Timed, interval, ages_down, due_at, no_operation, Schedule, Slot, rank, slot_of, of_rank, placed}
use Rattle.block_schedule.specs.{due_at_ages, IsRange, IsScheduleOf, IsSlotOf}
use Rattle.block_schedule.proofs.{Ranks.few_older, Ranks.rank_older, Ages.between, Ages.range_is, Ages.range_of_ages}

-- an age is within each block of the schedule where it is within one
pub same_bound : (b c : Block) (s : Schedule) (age live : ℕ) → IsScheduleOf b s → IsScheduleOf c s → age + (live - 1) * interval b < b.len
    → age + (live - 1) * interval c < c.len
same_bound b c s age live is also below =
    let len : b.len ≡ c.len = sym is.same_len ∙ also.same_len in
    let ii : interval b ≡ interval c = sym is.same_interval ∙ also.same_interval in
    let product : (live - 1) * interval b ≡ (live - 1) * interval c = ap (λ (n : ℕ). (live - 1) * n) ii in
    omega arith

-- as many ranks as live iterations, in one phase
pub record InOnePhase (ii rank live : ℕ) : Type 0 where
  pub phase : ℕ
  pub from : phase * LIVE_ITERATIONS + live ≤ rank + 1
  pub to : rank + 1 ≤ phase * LIVE_ITERATIONS + LIVE_ITERATIONS

-- the oldest of them is older by II for each but one
in_limit : (b : Block) (s : Schedule) (age older : ℕ) → IsScheduleOf b s → age + older * interval b < b.len
    → age + older * interval b < LIVE_ITERATIONS * interval b
in_limit b s age older is below = let span = is.limits.span in omega arith

pub in_one_phase : (b : Block) (s : Schedule) (age live : ℕ) → IsScheduleOf b s → age + (live - 1) * interval b < b.len
    → InOnePhase (interval b) (rank (interval b) age) live
in_one_phase b s age live is below =
    let few = few_older (interval b) age (live - 1) is.limits.some (in_limit b s age (live - 1) is below) in
    record { phase = age % interval b; from = omega arith; to = omega arith }

-- the rank of the newest age, as the schedule has it
pub newest_rank : (b : Block) (s : Schedule) (age newest : ℕ) → IsScheduleOf b s → newest ≡ rank s.interval age
    → newest ≡ rank (interval b) age
newest_rank b s age newest is at = at ∙ ap (λ (ii : ℕ). rank ii age) is.same_interval

-- there are as many ranks up to it
pub many_ranks : (b : Block) (s : Schedule) (age live newest : ℕ) → IsScheduleOf b s → age + (live - 1) * interval b < b.len
    → newest ≡ rank s.interval age → live ≤ newest + 1
many_ranks b s age live newest is below at =
    let one = in_one_phase b s age live is below in
    omega (arith, one.from, newest_rank b s age newest is at)

-- the slots of those ranks are what stands at the ages
pub due_is : (b : Block) (s : Schedule) (age live end from to : ℕ) → IsScheduleOf b s → age + (live - 1) * interval b < b.len
    → end ≡ rank (interval b) age + 1 → live ≤ end → IsRange s.slots.items (end - live) end from to
    → map (placed (end - live)) (slice_range s.slots.items from to) ≡ due_at_ages b (ages_down (interval b) age live)
due_is b s age live end from to is below at some range =
    let slots = s.slots.items in
    let oldest = end - live in
    let each : (older : ℕ) → older < live → of_rank (end - 1 - older) slots ≡ due_at b (age + older * interval b) = λ older l.
    let within : age + older * interval b < b.len = less older l in
    let last : end - 1 - older ≡ rank (interval b) (age + older * interval b) =
    ap (λ (n : ℕ). n - older) (omega arith) ∙ rank_older (interval b) age older is.limits.some (in_limit b s age older is within) in
    ap (λ (r : ℕ). of_rank r slots) last ∙ is.operations (age + older * interval b) within in
    ap (map (placed oldest)) (range_is oldest end slots from to (omega arith) range)
    ∙ (ap (λ (r : ℕ). map (placed oldest) (between r end slots)) (sym (add-zero oldest))
    ∙ range_of_ages b slots (interval b) age oldest end 0 live is.in_order (omega arith) each)
  where
    less : (older : ℕ) → older < live → age + older * interval b < b.len
    less older l =
        let product : older * interval b ≤ (live - 1) * interval b =
        Rattle.std.proofs.Math.Nat.mul-le-mul_right (interval b) (omega arith) in
        omega arith

-- each slot is of an operation of the block
pub ops_inside : (b : Block) (s : Schedule) → IsScheduleOf b s → All (λ (t : Slot). t.op < length b.ops) s.slots.items
ops_inside b s is = All-permutation (λ (t : Slot). t.op < length b.ops) _ _ is.slots (λ k d l.
    let count : length (map (slot_of (interval b)) (enumerate_from 0 b.ops)) ≡ length b.ops =
    length-map (enumerate_from 0 b.ops) (slot_of (interval b)) ∙ length-enumerate_from 0 b.ops in
    let inside : k < length b.ops = omega arith in
    let item : get_or (map (slot_of (interval b)) (enumerate_from 0 b.ops)) k d
    ≡ slot_of (interval b) (get_or (enumerate_from 0 b.ops) k (0, no_operation)) =
    get_or-map (slot_of (interval b)) (enumerate_from 0 b.ops) k (0, no_operation) d (omega (arith, length-enumerate_from 0 b.ops)) in
    let pair : get_or (enumerate_from 0 b.ops) k (0, no_operation) ≡ (0 + k, get_or b.ops k no_operation) =
    get_or-enumerate_from 0 b.ops k (0, no_operation) inside in
    let number : (get_or (map (slot_of (interval b)) (enumerate_from 0 b.ops)) k d).op ≡ 0 + k =
    ap (λ (t : Slot). t.op) item ∙ ap (λ (e : ℕ × Timed). e.0) pair in
    omega arith)

pub slots_inside : (b : Block) (s : Schedule) (live end from to : ℕ) → IsScheduleOf b s → live ≤ end
    → IsRange s.slots.items (end - live) end from to
    → All (IsSlotOf b (end - live) live) (slice_range s.slots.items from to)
slots_inside b s live end from to is some range k d l =
    let slots = s.slots.items in
    let inside = range.to_inside in
    let short : k < to - from = omega (arith, length-take (to - from) (drop from slots)) in
    let item : get_or (slice_range slots from to) k d ≡ get_or slots (from + k) d =
    get_or-take (to - from) (drop from slots) k d short ∙ get_or-drop from slots k d in
    let least = range.not_below (from + k) d (omega arith) (omega arith) in
    let most = range.before_end (from + k) d (omega arith) in
    let own = ops_inside b s is (from + k) d (omega arith) in
    rw item (record { from = least; to = omega arith; op = own })
