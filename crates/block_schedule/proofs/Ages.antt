-- The slots of a range of ranks are those of the ages of live iterations.
use Rattle.std.proofs.Common.{◌≡◌, refl, sym, ◌∙◌, ap, ap₂, arith, ℕ, zero, suc, ◌+◌, ◌-◌, ◌*◌, ◌<◌, ◌≤◌, ◌⊎◌, inl, inr, List, [], ◌∷◌}
use Rattle.std.proofs.Common.{◌++◌, length, map, take, get_or, Bool, true, false, cond, ◌&&◌, ◌==◌, nat_le, nat_lt}
use Rattle.std.proofs.lemmas.Bool.{lt-ltb, le-ltb, le-leb, lt-leb, eq-eqb, ne_eqb, eqb-true, cases_order, cases_lt}
use Rattle.std.proofs.lemmas.List.{map-append, take_all, drop_all}
use Rattle.std.specs.{Prelude.filter, Prelude.slice_range, Prelude.flat_map, List.enumerate_from, List.Sorted.IsNonDecreasingBy}
use Rattle.block_schedule.specs.{Block, due_at, ages_down, Slot, of_rank, placed, IsRange}

-- the slots whose ranks are at least the first and below the end
abbrev pub between : ℕ → ℕ → List Slot → List Slot
between first end slots = filter (λ t. nat_le first t.rank && nat_lt t.rank end) slots

abbrev Rises : List Slot → Type 0
Rises = IsNonDecreasingBy (λ t. t.rank)

rest_rises : (x : Slot) (xs : List Slot) → Rises (x ∷ xs) → Rises xs
rest_rises x xs up i j d le l = up (suc i) (suc j) d (omega arith) (omega arith)

abbrev AreFrom : ℕ → List Slot → Type 0
AreFrom end slots = (k : ℕ) (d : Slot) → k < length slots → end ≤ (get_or slots k d).rank

rest_after : (end : ℕ) (x : Slot) (xs : List Slot) → AreFrom end (x ∷ xs) → AreFrom end xs
rest_after end x xs above k d l = above (suc k) d (omega arith)

-- ---- one slot

before_first : (first end : ℕ) (x : Slot) (xs : List Slot) → x.rank < first → between first end (x ∷ xs) ≡ between first end xs
before_first first end x xs l = rw (lt-leb first x.rank l) refl

after_end : (first end : ℕ) (x : Slot) (xs : List Slot) → first ≤ x.rank → end ≤ x.rank → between first end (x ∷ xs) ≡ between first end xs
after_end first end x xs f l = rw (le-leb first x.rank f, le-ltb x.rank end l) refl

within : (first end : ℕ) (x : Slot) (xs : List Slot) → first ≤ x.rank → x.rank < end
    → between first end (x ∷ xs) ≡ x ∷ between first end xs
within first end x xs f l = rw (le-leb first x.rank f, lt-ltb x.rank end l) refl

none_between : (first end : ℕ) (slots : List Slot) → first ≤ end → AreFrom end slots → between first end slots ≡ []
none_between first end [] le above = refl
none_between first end (x ∷ xs) le above =
    let here : end ≤ x.rank = above 0 x (omega arith) in
    after_end first end x xs (omega arith) here ∙ none_between first end xs le (rest_after end x xs above)

pub empty_between : (first : ℕ) (slots : List Slot) → between first first slots ≡ []
empty_between first [] = refl
empty_between first (x ∷ xs) = by_order (cases_lt x.rank first) (empty_between first xs)
  where
    by_order : (x.rank < first) ⊎ (first ≤ x.rank) → between first first xs ≡ [] → between first first (x ∷ xs) ≡ []
    by_order (inl l) rest = before_first first first x xs l ∙ rest
    by_order (inr l) rest = after_end first first x xs l l ∙ rest

-- ---- a range

-- the place of the first slot that is not below a rank is at most that of the first not below a later one
pub points_rise : (slots : List Slot) (first end from to : ℕ) → first ≤ end → from ≤ length slots
    → ((k : ℕ) (d : Slot) → k < from → (get_or slots k d).rank < first)
    → ((k : ℕ) (d : Slot) → to ≤ k → k < length slots → end ≤ (get_or slots k d).rank) → from ≤ to
points_rise slots first end from to le inside below after = elim (cases_lt to from) [
  | inl less ↦
      let d : Slot = record { rank = 0; op = 0 } in
      let low = below to d less in
      let high = after to d (omega arith) (omega arith) in
      absurd (omega arith)
  | inr most ↦ most
]

-- a range of wider ranks in which no other slot stands
pub narrow_range : (slots : List Slot) (first end wide_first wide_end from to : ℕ) → Rises slots → wide_first ≤ first → first ≤ end
    → end ≤ wide_end → IsRange slots wide_first wide_end from to
    → (from < to → (d : Slot) → first ≤ (get_or slots from d).rank) → (from < to → (d : Slot) → (get_or slots (to - 1) d).rank < end)
    → IsRange slots first end from to
narrow_range slots first end wide_first wide_end from to up low le high r least most = record {
  rises = r.rises;
  to_inside = r.to_inside;
  below = λ k d l. let far = r.below k d l in omega arith;
  not_below = λ k d f l.
      elim (cases_lt from to) [
        | inl some ↦
            let more : (get_or slots from d).rank ≤ (get_or slots k d).rank = up from k d f l in
            let own = least some d in
            omega arith
        | inr none ↦ let far = r.at_end k d (omega arith) l in omega arith
      ];
  before_end = λ k d l.
      elim (cases_lt from to) [
        | inl some ↦
            let inside = r.to_inside in
            let less : (get_or slots k d).rank ≤ (get_or slots (to - 1) d).rank = up k (to - 1) d (omega arith) (omega arith) in
            let own = most some d in
            omega arith
        | inr none ↦ let rises = r.rises in let far = r.below k d (omega arith) in omega arith
      ];
  at_end = λ k d f l. let far = r.at_end k d f l in omega arith;
}

-- the slots from the first of the range up to its end
pub range_is : (first end : ℕ) (slots : List Slot) (from to : ℕ) → first ≤ end → IsRange slots first end from to
    → slice_range slots from to ≡ between first end slots
range_is first end [] from to le r =
    let none : List Slot = [] in
    let rises = r.rises in
    let inside = r.to_inside in
    ap (take (to - from)) (drop_all from none (omega arith)) ∙ take_all (to - from) none (omega arith)
range_is first end (x ∷ xs) zero zero le r =
    sym (none_between first end (x ∷ xs) le (λ k d l. r.at_end k d (omega arith) l))
range_is first end (x ∷ xs) (suc from) zero le r = let rises = r.rises in absurd (omega arith)
range_is first end (x ∷ xs) zero (suc to) le r =
    let rest = range_is first end xs 0 to le (record {
      rises = omega arith;
      to_inside = omega (arith, r.to_inside);
      below = λ k d l. absurd (omega arith);
      not_below = λ k d f l. r.not_below (suc k) d (omega arith) (omega arith);
      before_end = λ k d l. r.before_end (suc k) d (omega arith);
      at_end = λ k d f l. r.at_end (suc k) d (omega arith) (omega arith);
    }) in
    let size : suc to - 0 ≡ suc (to - 0) = omega arith in
    rw size (ap (λ (ts : List Slot). x ∷ ts) rest)
    ∙ sym (within first end x xs (r.not_below 0 x (omega arith) (omega arith)) (r.before_end 0 x (omega arith)))
range_is first end (x ∷ xs) (suc from) (suc to) le r =
    let rest = range_is first end xs from to le (record {
      rises = omega (arith, r.rises);
      to_inside = omega (arith, r.to_inside);
      below = λ k d l. r.below (suc k) d (omega arith);
      not_below = λ k d f l. r.not_below (suc k) d (omega arith) (omega arith);
      before_end = λ k d l. r.before_end (suc k) d (omega arith);
      at_end = λ k d f l. r.at_end (suc k) d (omega arith) (omega arith);
    }) in
    let size : suc to - suc from ≡ to - from = omega arith in
    rw size rest ∙ sym (before_first first end x xs (r.below 0 x (omega arith)))

-- ---- rank after rank

none_of_rank : (r : ℕ) (slots : List Slot) → AreFrom (r + 1) slots → filter (λ t. t.rank == r) slots ≡ []
none_of_rank r [] above = refl
none_of_rank r (x ∷ xs) above =
    let here : r + 1 ≤ x.rank = above 0 x (omega arith) in
    rw (ne_eqb x.rank r (λ e. omega arith)) (none_of_rank r xs (rest_after (r + 1) x xs above))

-- the slots of the first rank, and then those of the others
pub one_rank : (first end : ℕ) (slots : List Slot) → Rises slots → first < end
    → between first end slots ≡ filter (λ t. t.rank == first) slots ++ between (first + 1) end slots
one_rank first end [] up some = refl
one_rank first end (x ∷ xs) up some = by_order (cases_order x.rank first) (one_rank first end xs (rest_rises x xs up) some)
  where
    later : first < x.rank → AreFrom (first + 1) (x ∷ xs)
    later l k d inside = let le : x.rank ≤ (get_or (x ∷ xs) k d).rank = up 0 k d (omega arith) inside in omega arith

    by_order : ((x.rank ≡ first) ⊎ ((x.rank < first) ⊎ (first < x.rank)))
        → between first end xs ≡ filter (λ t. t.rank == first) xs ++ between (first + 1) end xs
        → between first end (x ∷ xs) ≡ filter (λ t. t.rank == first) (x ∷ xs) ++ between (first + 1) end (x ∷ xs)
    by_order (inl e) rest =
        rw (within first end x xs (omega arith) (omega arith), before_first (first + 1) end x xs (omega arith), eq-eqb x.rank first e)
        (ap (λ (ts : List Slot). x ∷ ts) rest)
    by_order (inr (inl l)) rest =
        rw (before_first first end x xs l, before_first (first + 1) end x xs (omega arith), ne_eqb x.rank first (λ e. omega arith)) rest
    by_order (inr (inr l)) rest =
        let none = none_of_rank first (x ∷ xs) (later l) in
        rw none (same_after (x ∷ xs) (later l))
      where
        same_after : (ts : List Slot) → AreFrom (first + 1) ts → between first end ts ≡ between (first + 1) end ts
        same_after [] above = refl
        same_after (t ∷ ts) above =
            let here : first + 1 ≤ t.rank = above 0 t (omega arith) in
            rw (le-leb first t.rank (omega arith), le-leb (first + 1) t.rank here)
            (by_end (nat_lt t.rank end) (same_after ts (rest_after (first + 1) t ts above)))
          where
            by_end : (q : Bool) → between first end ts ≡ between (first + 1) end ts
                → cond q (t ∷ between first end ts) (between first end ts)
                ≡ cond q (t ∷ between (first + 1) end ts) (between (first + 1) end ts)
            by_end true rest = ap (λ (us : List Slot). t ∷ us) rest
            by_end false rest = rest

-- the slots of one rank, each beside its iteration
placed_of_rank : (oldest i : ℕ) (slots : List Slot)
    → map (placed oldest) (filter (λ t. t.rank == oldest + i) slots) ≡ map (λ n. (i, n)) (of_rank (oldest + i) slots)
placed_of_rank oldest i [] = refl
placed_of_rank oldest i (x ∷ xs) = by_test (x.rank == oldest + i) refl (placed_of_rank oldest i xs)
  where
    by_test : (q : Bool) → (x.rank == oldest + i) ≡ q
        → map (placed oldest) (filter (λ t. t.rank == oldest + i) xs) ≡ map (λ n. (i, n)) (of_rank (oldest + i) xs)
        → map (placed oldest) (filter (λ t. t.rank == oldest + i) (x ∷ xs)) ≡ map (λ n. (i, n)) (of_rank (oldest + i) (x ∷ xs))
    by_test true e rest =
        let same : x.rank ≡ oldest + i = eqb-true x.rank (oldest + i) e in
        let place : x.rank - oldest ≡ i = omega arith in
        rw e (ap₂ (λ (p : ℕ) (ps : List (ℕ × ℕ)). (p, x.op) ∷ ps) place rest)
    by_test false e rest = rw e rest

-- a range of as many ranks as there are ages is what stands at the ages
pub range_of_ages : (b : Block) (slots : List Slot) (ii age oldest end i n : ℕ) → Rises slots → end ≡ oldest + i + n
    → ((older : ℕ) → older < n → of_rank (end - 1 - older) slots ≡ due_at b (age + older * ii))
    → map (placed oldest) (between (oldest + i) end slots)
    ≡ flat_map (λ it. map (λ k. (it.0, k)) (due_at b it.1)) (enumerate_from i (ages_down ii age n))
range_of_ages b slots ii age oldest end i zero up size at =
    let same : end ≡ oldest + i = omega arith in
    rw same (ap (map (placed oldest)) (empty_between (oldest + i) slots))
range_of_ages b slots ii age oldest end i (suc n) up size at =
    let next : oldest + i + 1 ≡ oldest + (i + 1) = omega arith in
    let parts : between (oldest + i) end slots ≡ filter (λ t. t.rank == oldest + i) slots ++ between (oldest + (i + 1)) end slots =
    one_rank (oldest + i) end slots up (omega arith)
    ∙ ap (λ (r : ℕ). filter (λ t. t.rank == oldest + i) slots ++ between r end slots) next in
    let last : end - 1 - n ≡ oldest + i = omega arith in
    let here : of_rank (oldest + i) slots ≡ due_at b (age + n * ii) = ap (λ (r : ℕ). of_rank r slots) (sym last) ∙ at n (omega arith) in
    let front : map (placed oldest) (filter (λ t. t.rank == oldest + i) slots) ≡ map (λ k. (i, k)) (due_at b (age + n * ii)) =
    placed_of_rank oldest i slots ∙ ap (map (λ (k : ℕ). (i, k))) here in
    let rest = range_of_ages b slots ii age oldest end (i + 1) n up (omega arith) (λ older l. at older (omega arith)) in
    ap (map (placed oldest)) parts
    ∙ (map-append (placed oldest) (filter (λ t. t.rank == oldest + i) slots) (between (oldest + (i + 1)) end slots)
    ∙ ap₂ (λ (x y : List (ℕ × ℕ)). x ++ y) front rest)
