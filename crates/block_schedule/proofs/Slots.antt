-- Slots by rank, and what stands at a rank.
use Rattle.std.proofs.Common.{◌≡◌, refl, sym, ◌∙◌, ap, arith, ℕ, suc, zero-add, ◌+◌, ◌*◌, ◌<◌, ◌≤◌, ◌⊎◌, inl, inr, List, [], ◌∷◌, ◌++◌}
use Rattle.std.proofs.Common.{length, map, take, get_or, not, ◌&&◌, ◌==◌}
use Rattle.std.proofs.lemmas.Bool.{lt-ltb, le-ltb, eq-eqb, ne_eqb, cases_order}
use Rattle.std.proofs.lemmas.List.{length-map, take_more, take_all, map_push}
use Rattle.std.proofs.lemmas.List.FromFn.{get_or-enumerate_from, length-enumerate_from}
use Rattle.std.proofs.{lemmas.List.Elements.filter_agree, lemmas.List.Sorted.length_permutation}
use Rattle.std.specs.Prelude.{filter, IsPermutation, All}
use Rattle.std.specs.{List.enumerate_from, List.Sorted.IsStableByKey, Ordering.nat_cmp, Ordering.is_lt}
use Rattle.flow_design.specs.declared.limits.TheConstants.{LIVE_ITERATIONS}
use Rattle.block_schedule.specs.{Timed, Block, interval, due_at, Slot, rank, slot_of, of_rank, KeepsLimits}
use Rattle.block_schedule.proofs.Ranks.{same_rank}

-- ---- making

-- one operation more
pub slots_more : (ii : ℕ) (ts : List Timed) (n : ℕ) (t : Timed) (before after : List Slot) → n < length ts → t ≡ get_or ts n t
    → before ≡ map (slot_of ii) (take n (enumerate_from 0 ts)) → after ≡ before ++ (record { rank = rank ii t.offset; op = n }) ∷ []
    → after ≡ map (slot_of ii) (take (n + 1) (enumerate_from 0 ts))
slots_more ii ts n t before after l read so_far added =
    let inside : n < length (enumerate_from 0 ts) = rw (length-enumerate_from 0 ts) l in
    let here : get_or (enumerate_from 0 ts) n (n, t) ≡ (n, t) = rw (get_or-enumerate_from 0 ts n (n, t) l, zero-add, ← read) refl in
    let more : take (n + 1) (enumerate_from 0 ts) ≡ take n (enumerate_from 0 ts) ++ (n, t) ∷ [] =
    take_more (enumerate_from 0 ts) n (n, t) inside ∙ ap (λ (e : ℕ × Timed). take n (enumerate_from 0 ts) ++ e ∷ []) here in
    added ∙ (ap (λ (es : List Slot). es ++ slot_of ii (n, t) ∷ []) so_far
    ∙ (sym (map_push (slot_of ii) (take n (enumerate_from 0 ts)) (n, t)) ∙ ap (map (slot_of ii)) (sym more)))

pub slots_all : (ii : ℕ) (ts : List Timed) (n : ℕ) (slots : List Slot) → length ts ≤ n
    → slots ≡ map (slot_of ii) (take n (enumerate_from 0 ts)) → slots ≡ map (slot_of ii) (enumerate_from 0 ts)
slots_all ii ts n slots all so_far =
    so_far ∙ ap (map (slot_of ii)) (take_all n (enumerate_from 0 ts) (rw (length-enumerate_from 0 ts) all))

-- a tie with a rank is an equal rank
tie_is : (x y : ℕ) → (not (is_lt (nat_cmp x y)) && not (is_lt (nat_cmp y x))) ≡ (y == x)
tie_is x y = by_order (cases_order x y)
  where
    by_order : ((x ≡ y) ⊎ ((x < y) ⊎ (y < x))) → (not (is_lt (nat_cmp x y)) && not (is_lt (nat_cmp y x))) ≡ (y == x)
    by_order (inl e) = rw (le-ltb x y (omega arith), eq-eqb x y e, le-ltb y x (omega arith), eq-eqb y x (sym e)) refl
    by_order (inr (inl l)) = rw (lt-ltb x y l, ne_eqb y x (λ e. omega arith)) refl
    by_order (inr (inr g)) = rw (le-ltb x y (omega arith), ne_eqb x y (λ e. omega arith), lt-ltb y x g, ne_eqb y x (λ e. omega arith)) refl

-- a stable sort by ranks keeps the slots of each rank, in order
same_ties : (slots sorted : List Slot) → IsStableByKey (λ (t : Slot). t.rank) nat_cmp slots sorted → (r : ℕ)
    → filter (λ t. t.rank == r) sorted ≡ filter (λ t. t.rank == r) slots
same_ties slots sorted stable r =
    let tie = λ (t : Slot). not (is_lt (nat_cmp r t.rank)) && not (is_lt (nat_cmp t.rank r)) in
    let test = λ (t : Slot). t.rank == r in
    sym (filter_agree tie test (λ t. tie_is r t.rank) sorted)
    ∙ (stable (record { rank = r; op = 0 }) ∙ filter_agree tie test (λ t. tie_is r t.rank) slots)

-- the operations of an offset's rank are those of the offset
of_offset : (ii offset n : ℕ) (ts : List Timed) → 1 ≤ ii → offset < LIVE_ITERATIONS * ii → All (λ t. t.offset < LIVE_ITERATIONS * ii) ts
    → of_rank (rank ii offset) (map (slot_of ii) (enumerate_from n ts))
    ≡ map (λ t. t.0) (filter (λ t. (t.1).offset == offset) (enumerate_from n ts))
of_offset ii offset n [] some small below = refl
of_offset ii offset n (t ∷ ts) some small below =
    by_test (cases_order t.offset offset) (of_offset ii offset (n + 1) ts some small (λ k d l. below (suc k) d (omega arith)))
  where
    by_test : ((t.offset ≡ offset) ⊎ ((t.offset < offset) ⊎ (offset < t.offset)))
        → of_rank (rank ii offset) (map (slot_of ii) (enumerate_from (n + 1) ts))
        ≡ map (λ u. u.0) (filter (λ u. (u.1).offset == offset) (enumerate_from (n + 1) ts))
        → of_rank (rank ii offset) (map (slot_of ii) (enumerate_from n (t ∷ ts)))
        ≡ map (λ u. u.0) (filter (λ u. (u.1).offset == offset) (enumerate_from n (t ∷ ts)))
    by_test (inl e) rest =
        rw (eq-eqb t.offset offset e, eq-eqb (rank ii t.offset) (rank ii offset) (ap (rank ii) e)) (ap (λ (ns : List ℕ). n ∷ ns) rest)
    by_test (inr order) rest =
        let apart : (t.offset ≡ offset) → ⊥ = λ e. differ order e in
        rw (
          ne_eqb t.offset offset apart,
          ne_eqb (rank ii t.offset) (rank ii offset) (λ e. apart (same_rank ii t.offset offset some (below 0 t (omega arith)) small e)),
        ) rest
      where
        differ : (t.offset < offset) ⊎ (offset < t.offset) → (t.offset ≡ offset) → ⊥
        differ (inl l) e = absurd (omega arith)
        differ (inr l) e = absurd (omega arith)

pub operations_are : (b : Block) (slots sorted : List Slot) → KeepsLimits b → slots ≡ map (slot_of (interval b)) (enumerate_from 0 b.ops)
    → IsStableByKey (λ (t : Slot). t.rank) nat_cmp slots sorted → (offset : ℕ) → offset < b.len
    → of_rank (rank (interval b) offset) sorted ≡ due_at b offset
unfolding due_at
operations_are b slots sorted limits made stable offset below =
    let r = rank (interval b) offset in
    let span = limits.span in
    ap (λ (es : List Slot). map (λ t. t.op) es) (same_ties slots sorted stable r)
    ∙ (ap (of_rank r) made
    ∙ of_offset (interval b) offset 0 b.ops limits.some (omega arith) (λ k d l. let own = limits.in_block k d l in omega arith))

-- as many slots as operations
pub same_count : (b : Block) (slots sorted : List Slot) → slots ≡ map (slot_of (interval b)) (enumerate_from 0 b.ops)
    → IsPermutation slots sorted → length sorted ≡ length b.ops
same_count b slots sorted made moved =
    length_permutation slots sorted moved
    ∙ (ap length made ∙ (length-map (enumerate_from 0 b.ops) (slot_of (interval b)) ∙ length-enumerate_from 0 b.ops))
