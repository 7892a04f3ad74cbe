-- How full a FIFO is, by the clocks in which elements were pushed on it and popped off it.
use Rattle.std.proofs.Common.{◌≡◌, ℕ, zero, suc, ◌+◌, ◌-◌, ◌<◌, ◌≤◌, ◌^◌, List, [], ◌∷◌, length, Bool, true, false, ◌&&◌, not, cond, refl}
use Rattle.std.proofs.Common.{sym, ◌∙◌, ap, ap₂, arith, get_or, ltb, leb, inl, inr, length-append}
use Rattle.std.proofs.lemmas.Bool.{cases_lt, lt-ltb, le-ltb, le-leb, lt-leb}
use Rattle.std.proofs.{lemmas.List.length-map, lemmas.List.get_or-map, lemmas.List.Sums.sum_by-cons}
use Rattle.std.specs.{Prelude.All, Prelude.AllPairs, List.range_with_len, List.count_by}
use Rattle.flow_word.specs.declared.access.Side.TheVariants.{Pop, Push}
use Rattle.stall_text.specs.{Plan, Element, is_fifo, kind_at, delay_at, FitsEngine, moved, values, contents_of, is_empty, is_full, state}
use Rattle.stall_text.specs.{history, all_in, fill, last_clock, before, is_ahead, ahead_clocks, ArePortClocks, empty_clocks, full_clocks}
use Rattle.stall_text.specs.{shifted, empty_by}
use Rattle.flow_design.specs.declared.limits.TheConstants.{CYCLES, FIFO_DELAY}
use Rattle.lockstep_defs.proofs.Counts.{is_counted, delay_positive, fifo_opens_empty}
use Rattle.port_clocks.proofs.Filled.{fill_told}

-- ---- clocks that come later

later_at : (by : ℕ) (xs : List ℕ) (k d : ℕ) → k < length xs → get_or (shifted by xs) k d ≡ get_or xs k 0 + by
later_at by xs k d l = get_or-map (λ (x : ℕ). x + by) xs k 0 d l

pub later_rises : (by : ℕ) (xs : List ℕ) → AllPairs (λ a b. a ≤ b) xs → AllPairs (λ a b. a ≤ b) (shifted by xs)
later_rises by xs h i j d l m =
    let n = length-map xs (λ (x : ℕ). x + by) in
    let rises : get_or xs i 0 ≤ get_or xs j 0 = h i j 0 l (omega arith) in
    omega (arith, later_at by xs i d (omega arith), later_at by xs j d (omega arith))

pub later_early : (by clock : ℕ) (xs : List ℕ) → by ≤ FIFO_DELAY → clock ≤ CYCLES → All (λ x. x < clock) xs
    → All (λ x. x + 1 < 2 ^ 64) (shifted by xs)
later_early by clock xs l m h k d w =
    let n = length-map xs (λ (x : ℕ). x + by) in
    let early : get_or xs k 0 < clock = h k 0 (omega arith) in
    omega (arith, later_at by xs k d (omega arith))

abbrev one_if : Bool → ℕ
one_if b = cond b 1 0

later_test : (x c d : ℕ) → 1 ≤ d → ltb (x + (d - 1)) c ≡ ltb x (suc c - d)
later_test x c d l = elim (cases_lt (x + (d - 1)) c) [
  | inl w ↦ lt-ltb (x + (d - 1)) c w ∙ sym (lt-ltb x (suc c - d) (omega arith))
  | inr w ↦ le-ltb (x + (d - 1)) c w ∙ sym (le-ltb x (suc c - d) (omega arith))
]

pub later_before : (xs : List ℕ) (c d : ℕ) → 1 ≤ d → before (shifted (d - 1) xs) c ≡ before xs (suc c - d)
later_before [] c d l = refl
later_before (x ∷ xs) c d l =
    sum_by-cons (λ (y : ℕ). cond (ltb y c) 1 0) (x + (d - 1)) (shifted (d - 1) xs)
    ∙ (ap₂ (λ (b : Bool) (n : ℕ). cond b 1 0 + n) (later_test x c d l) (later_before xs c d l)
    ∙ sym (sum_by-cons (λ (y : ℕ). cond (ltb y (suc c - d)) 1 0) x xs))

-- ---- over all clocks

same_counts : (t u : ℕ → Bool) (a n : ℕ) → ((c : ℕ) → c < a + n → t c ≡ u c)
    → count_by t (range_with_len a n) ≡ count_by u (range_with_len a n)
same_counts t u a zero h = refl
same_counts t u a (suc n) h =
    sum_by-cons (λ (c : ℕ). cond (t c) 1 0) a (range_with_len (a + 1) n)
    ∙ (ap₂ (λ (b : Bool) (k : ℕ). cond b 1 0 + k) (h a (omega arith)) (same_counts t u (a + 1) n (λ c l. h c (omega arith)))
    ∙ sym (sum_by-cons (λ (c : ℕ). cond (u c) 1 0) a (range_with_len (a + 1) n)))

one_of_both : (b : Bool) → cond (not b) 1 0 + cond b 1 0 ≡ 1
one_of_both true = refl
one_of_both false = refl

others_counted : (t u : ℕ → Bool) (a n : ℕ) → ((c : ℕ) → c < a + n → t c ≡ not (u c))
    → count_by t (range_with_len a n) + count_by u (range_with_len a n) ≡ n
others_counted t u a zero h = refl
others_counted t u a (suc n) h =
    omega (
      arith,
      sum_by-cons (λ (c : ℕ). cond (t c) 1 0) a (range_with_len (a + 1) n),
      sum_by-cons (λ (c : ℕ). cond (u c) 1 0) a (range_with_len (a + 1) n),
      others_counted t u (a + 1) n (λ c l. h c (omega arith)),
      ap one_if (h a (omega arith)),
      one_of_both (u a),
    )

-- ---- tests by counts

less_test : (a b : ℕ) → ltb a b ≡ leb (a + 1) b
less_test a b = elim (cases_lt a b) [
  | inl w ↦ lt-ltb a b w ∙ sym (le-leb (a + 1) b (omega arith))
  | inr w ↦ le-ltb a b w ∙ sym (lt-leb (a + 1) b (omega arith))
]

swapped : (a b : Bool) → not a ≡ b → a ≡ not b
swapped true true e = cc
swapped true false e = refl
swapped false true e = refl
swapped false false e = cc

full_test : (depth held popped pushed : ℕ) → held + popped ≡ pushed → leb depth held ≡ leb (popped + depth) pushed
full_test depth held popped pushed e = elim (cases_lt held depth) [
  | inl w ↦ lt-leb depth held w ∙ sym (lt-leb (popped + depth) pushed (omega arith))
  | inr w ↦ le-leb depth held w ∙ sym (le-leb (popped + depth) pushed (omega arith))
]

-- ---- a FIFO of a plan

module _ (p : Plan) (fits : FitsEngine p) (f : ℕ) (l : f < length p.design.channels) (fifo : is_fifo (kind_at p f) ≡ true)
    (pops pushes : List ℕ) (h : ArePortClocks p (record { side = Pop; channel = f }) pops)
    (k : ArePortClocks p (record { side = Push; channel = f }) pushes) where
  full_is : (c : ℕ) → c ≤ last_clock p → is_full p f (contents_of (state p c).contents f) ≡ is_ahead (get_or p.depths f 0) pushes pops c
  unfolding fill
  full_is c m =
      ap (λ (b : Bool). b && leb (get_or p.depths f 0) (length (contents_of (state p c).contents f))) fifo
      ∙ full_test (get_or p.depths f 0) (length (contents_of (state p c).contents f)) (before pops c) (before pushes c)
      (fill_told p fits f l fifo pops pushes h k c m)

  pub full_clocks_are : full_clocks p f ≡ ahead_clocks (get_or p.depths f 0) pushes pops (last_clock p)
  unfolding full_clocks ahead_clocks
  full_clocks_are = same_counts _ _ 0 (last_clock p) (λ c m. full_is c (omega arith))

  went_in : (c : ℕ) → length (all_in p c f) ≡ length (moved Push f (history p c))
  went_in c =
      let none = ap (λ (held : List Element). length (values held)) (fifo_opens_empty p fits f l fifo) in
      let parts = length-append (values (contents_of (state p 0).contents f)) (moved Push f (history p c)) in
      omega arith

  abbrev d : ℕ
  d = delay_at p f

  pub empty_is : (c : ℕ) → c ≤ last_clock p
      → is_empty c (contents_of (state p c).contents f) ≡ not (is_ahead 1 (shifted (d - 1) pushes) pops c)
  empty_is c m =
      let positive = delay_positive p fits f l in
      let there = went_in (suc c - d) ∙ sym (k.counts (suc c - d) (omega arith)) ∙ sym (later_before pushes c d positive) in
      swapped (is_empty c (contents_of (state p c).contents f)) (is_ahead 1 (shifted (d - 1) pushes) pops c)
      ((is_counted p fits c f l).pops
      ∙ (ap₂ ltb (sym (h.counts c m)) there ∙ less_test (before pops c) (before (shifted (d - 1) pushes) c)))

  pub empty_clocks_are : empty_clocks p f ≡ empty_by d (last_clock p) pops pushes
  unfolding empty_clocks ahead_clocks
  empty_clocks_are =
      let sum = others_counted (λ c. is_empty c (contents_of (state p c).contents f)) (is_ahead 1 (shifted (d - 1) pushes) pops) 0
      (last_clock p)
      (λ c m. empty_is c (omega arith)) in
      omega arith
