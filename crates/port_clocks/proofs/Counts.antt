-- How many clocks of a list are before a clock, and in how many clocks of an interval a test holds.
use Rattle.std.proofs.Common.{◌≡◌, ℕ, zero, suc, ◌+◌, ◌-◌, ◌<◌, ◌≤◌, List, [], ◌∷◌, refl, sym, ap, ap₂, ◌∙◌, arith, Bool, true, false, cond}
use Rattle.std.proofs.Common.{length, get_or, max, min, ltb, leb, inl, inr, ◌⊎◌, add-one, zero-add, Option, slice_get}
use Rattle.std.proofs.lemmas.Bool.{cases_lt, lt-ltb, le-ltb, le-leb, lt-leb}
use Rattle.std.proofs.{lemmas.List.map-id, lemmas.Option.slice_get-get_or, lemmas.Option.slice_get_past}
use Rattle.std.proofs.lemmas.List.FromFn.{sum_by-map-range_with_len_more, length-range_with_len}
use Rattle.std.proofs.lemmas.List.Sums.{sum_by-cons, count_by-le-length}
use Rattle.std.specs.{Prelude.AllPairs, Prelude.option_map, Prelude.unwrap_or, List.range_with_len, List.count_by, List.sum_by}
use Rattle.port_clocks.specs.{before, is_ahead, ahead_clocks}

abbrev pub Rises : List ℕ → Type 0
Rises xs = AllPairs (λ a b. a ≤ b) xs

abbrev one_if : Bool → ℕ
one_if b = cond b 1 0

tail_rises : (x : ℕ) (xs : List ℕ) → Rises (x ∷ xs) → Rises xs
tail_rises x xs h i j d l m = h (suc i) (suc j) d (omega arith) (omega arith)

before_cons : (x : ℕ) (xs : List ℕ) (c : ℕ) → before (x ∷ xs) c ≡ cond (ltb x c) 1 0 + before xs c
before_cons x xs c = sum_by-cons (λ (y : ℕ). cond (ltb y c) 1 0) x xs

one_at_most : (b : Bool) → cond b 1 0 ≤ 1
one_at_most true = omega arith
one_at_most false = omega arith

before_none : (xs : List ℕ) (c : ℕ) → ((k : ℕ) → k < length xs → c ≤ get_or xs k 0) → before xs c ≡ 0
before_none [] c h = refl
before_none (x ∷ xs) c h =
    let first = h 0 (omega arith) in
    omega (arith, before_cons x xs c, ap one_if (le-ltb x c first), before_none xs c (λ k l. h (suc k) (omega arith)))

-- a clock of the list before c, and those in front of it
pub before_above : (xs : List ℕ) → Rises xs → (k c : ℕ) → k < length xs → get_or xs k 0 < c → suc k ≤ before xs c
before_above [] h k c l q = absurd (omega arith)
before_above (x ∷ xs) h zero c l q = omega (arith, before_cons x xs c, ap one_if (lt-ltb x c q))
before_above (x ∷ xs) h (suc k) c l q =
    let least : x ≤ get_or xs k 0 = h 0 (suc k) 0 (omega arith) l in
    omega (
      arith,
      before_cons x xs c,
      ap one_if (lt-ltb x c (omega arith)),
      before_above xs (tail_rises x xs h) k c (omega arith) q,
    )

-- one that is not, and those after it
pub before_below : (xs : List ℕ) → Rises xs → (k c : ℕ) → k < length xs → c ≤ get_or xs k 0 → before xs c ≤ k
before_below [] h k c l q = absurd (omega arith)
before_below (x ∷ xs) h zero c l q =
    omega (arith, before_none (x ∷ xs) c (λ k m. each k m))
  where
    each : (k : ℕ) → k < length (x ∷ xs) → c ≤ get_or (x ∷ xs) k 0
    each zero m = q
    each (suc k) m = let least : x ≤ get_or xs k 0 = h 0 (suc k) 0 (omega arith) m in omega arith
before_below (x ∷ xs) h (suc k) c l q =
    omega (arith, before_cons x xs c, one_at_most (ltb x c), before_below xs (tail_rises x xs h) k c (omega arith) q)

pub before_most : (xs : List ℕ) (c : ℕ) → before xs c ≤ length xs
before_most xs c = count_by-le-length (λ (x : ℕ). ltb x c) xs

-- ---- intervals

abbrev counted : (ℕ → Bool) → ℕ → ℕ
counted test n = count_by test (range_with_len 0 n)

counted_more : (test : ℕ → Bool) (n : ℕ) → counted test (suc n) ≡ counted test n + cond (test n) 1 0
counted_more test n =
    let g = λ (c : ℕ). cond (test c) 1 0 in
    let same = λ (m : ℕ). ap (sum_by g) (map-id (range_with_len 0 m)) in
    ap (counted test) (sym (add-one n))
    ∙ (sym (same (n + 1)) ∙ (sum_by-map-range_with_len_more g (λ c. c) 0 n n (zero-add n) ∙ ap (λ (k : ℕ). k + cond (test n) 1 0) (same n)))

pub counted_at_most : (test : ℕ → Bool) (n : ℕ) → counted test n ≤ n
counted_at_most test n = omega (arith, count_by-le-length test (range_with_len 0 n), length-range_with_len 0 n)

counted_none : (test : ℕ → Bool) (a b : ℕ) → a ≤ b → ((c : ℕ) → a ≤ c → c < b → test c ≡ false) → counted test b ≡ counted test a
counted_none test a zero l h = let z : zero ≡ a = omega arith in ap (counted test) z
counted_none test a (suc b) l h = by_cases (cases_lt b a) (λ m. counted_none test a b m (λ c x y. h c x (omega arith)))
  where
    by_cases : (b < a) ⊎ (a ≤ b) → (a ≤ b → counted test b ≡ counted test a) → counted test (suc b) ≡ counted test a
    by_cases (inl w) rest = let z : suc b ≡ a = omega arith in ap (counted test) z
    by_cases (inr w) rest =
        counted_more test b ∙ (ap₂ (λ (n : ℕ) (t : Bool). n + cond t 1 0) (rest w) (h b w (omega arith)) ∙ omega arith)

counted_after : (test : ℕ → Bool) (x a b : ℕ) → a ≤ b → ((c : ℕ) → a ≤ c → c < b → test c ≡ ltb x c)
    → counted test b ≡ counted test a + (b - max a (x + 1))
counted_after test x a zero l h =
    let z : zero ≡ a = omega arith in
    ap (counted test) z ∙ omega arith
counted_after test x a (suc b) l h = by_cases (cases_lt b a) (λ m. counted_after test x a b m (λ c y z. h c y (omega arith)))
  where
    by_test : (cases : (x < b) ⊎ (b ≤ x)) → a ≤ b → counted test b ≡ counted test a + (b - max a (x + 1))
        → counted test b + cond (ltb x b) 1 0 ≡ counted test a + (suc b - max a (x + 1))
    by_test (inl w) m e = omega (arith, ap one_if (lt-ltb x b w))
    by_test (inr w) m e = omega (arith, ap one_if (le-ltb x b w))

    by_cases : (b < a) ⊎ (a ≤ b) → (a ≤ b → counted test b ≡ counted test a + (b - max a (x + 1)))
        → counted test (suc b) ≡ counted test a + (suc b - max a (x + 1))
    by_cases (inl w) rest =
        let z : suc b ≡ a = omega arith in
        ap (counted test) z ∙ omega arith
    by_cases (inr w) rest =
        counted_more test b
        ∙ (ap (λ (t : Bool). counted test b + cond t 1 0) (h b w (omega arith)) ∙ by_test (cases_lt x b) w (rest w))

-- ---- two lists

-- from one clock to another as many of the second list are before
pub counted_turn : (margin : ℕ) (xs ys : List ℕ) (i from until total between : ℕ) → Rises xs → 1 ≤ margin → from ≤ until
    → ((c : ℕ) → from ≤ c → c < until → before ys c ≡ i) → total ≡ ahead_clocks margin xs ys from
    → between ≡ unwrap_or (option_map (λ x. until - max from (x + 1)) (slice_get xs (i + margin - 1))) 0
    → total + between ≡ ahead_clocks margin xs ys until
unfolding ahead_clocks
counted_turn margin xs ys i from until total between r some l same t b = by_place (cases_lt k (length xs))
  where
    k : ℕ
    k = i + margin - 1

    test : ℕ → Bool
    test = is_ahead margin xs ys

    test_is : (c : ℕ) → from ≤ c → c < until → test c ≡ leb (i + margin) (before xs c)
    test_is c x y = ap (λ (n : ℕ). leb (n + margin) (before xs c)) (same c x y)

    by_clock : (c : ℕ) → (get_or xs k 0 < c) ⊎ (c ≤ get_or xs k 0) → k < length xs → leb (i + margin) (before xs c) ≡ ltb (get_or xs k 0) c
    by_clock c (inl q) w =
        le-leb (i + margin) (before xs c) (omega (arith, before_above xs r k c w q)) ∙ sym (lt-ltb (get_or xs k 0) c q)
    by_clock c (inr q) w =
        lt-leb (i + margin) (before xs c) (omega (arith, before_below xs r k c w q)) ∙ sym (le-ltb (get_or xs k 0) c q)

    by_place : (k < length xs) ⊎ (length xs ≤ k) → total + between ≡ counted test until
    by_place (inr w) =
        let none = b ∙ ap (λ (o : Option ℕ). unwrap_or (option_map (λ x. until - max from (x + 1)) o) 0) (slice_get_past xs k w) in
        omega (
          arith,
          t,
          none,
          counted_none test from until l (λ c x y.
              test_is c x y ∙ lt-leb (i + margin) (before xs c) (omega (arith, before_most xs c))),
        )
    by_place (inl w) =
        let x = get_or xs k 0 in
        let there = b ∙ ap (λ (o : Option ℕ). unwrap_or (option_map (λ x. until - max from (x + 1)) o) 0) (slice_get-get_or xs k 0 w) in
        omega (
          arith,
          t,
          there,
          counted_after test x from until l (λ c y z.
              test_is c y z ∙ by_clock c (cases_lt x c) w),
        )

pub ahead_none : (margin : ℕ) (xs ys : List ℕ) → 0 ≡ ahead_clocks margin xs ys 0
unfolding ahead_clocks
ahead_none margin xs ys = refl

pub ahead_at_most : (margin : ℕ) (xs ys : List ℕ) (clock : ℕ) → ahead_clocks margin xs ys clock ≤ clock
unfolding ahead_clocks
ahead_at_most margin xs ys clock = counted_at_most (is_ahead margin xs ys) clock

-- up to its next clock as many of the second list are before
pub turn_before : (ys : List ℕ) → Rises ys → (i from until clock : ℕ) → i < length ys → until ≡ min (get_or ys i 0 + 1) clock
    → ((c : ℕ) → from ≤ c → c < clock → i ≤ before ys c) → (c : ℕ) → from ≤ c → c < until → before ys c ≡ i
turn_before ys h i from until clock l e reach c x y =
    let low = reach c x (omega arith) in
    let high = before_below ys h i c l (omega arith) in
    omega arith

-- and from there on one more is
pub turn_reach : (ys : List ℕ) → Rises ys → (i until clock : ℕ) → i < length ys → until ≡ min (get_or ys i 0 + 1) clock
    → (c : ℕ) → until ≤ c → c < clock → i + 1 ≤ before ys c
turn_reach ys h i until clock l e c x y = omega (arith, before_above ys h i c l (omega arith))

-- before a later clock there are as many or more
pub before_later : (xs : List ℕ) (a b : ℕ) → a ≤ b → before xs a ≤ before xs b
before_later [] a b l = omega arith
before_later (x ∷ xs) a b l =
    omega (arith, before_cons x xs a, before_cons x xs b, before_later xs a b l, by_case (cases_lt x a))
  where
    by_case : (x < a) ⊎ (a ≤ x) → cond (ltb x a) 1 0 ≤ cond (ltb x b) 1 0
    by_case (inl w) = omega (arith, ap one_if (lt-ltb x a w), ap one_if (lt-ltb x b (omega arith)))
    by_case (inr w) = omega (arith, ap one_if (le-ltb x a w))
