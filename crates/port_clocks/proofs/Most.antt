-- By how many one list of clocks is ahead of another at most.
use Rattle.std.proofs.Common.{◌≡◌, ℕ, zero, suc, ◌+◌, ◌-◌, ◌<◌, ◌≤◌, List, [], ◌∷◌, refl, sym, ap, ◌∙◌, arith, true, false, map, length}
use Rattle.std.proofs.Common.{get_or, max, ltb, inl, inr, Option, slice_get, subst, add-one, zero-add}
use Rattle.std.proofs.{lemmas.Bool.cases_lt, lemmas.Bool.ltb-true, lemmas.Bool.ltb-false, lemmas.List.FromFn.map-range_with_len_more}
use Rattle.std.proofs.{lemmas.List.Sums.fold-append, lemmas.Option.slice_get-get_or, lemmas.Option.slice_get_past}
use Rattle.std.specs.{Prelude.All, Prelude.option_map, Prelude.unwrap_or, List.range_with_len, List.fold}
use Rattle.port_clocks.specs.{before, most_ahead}
use Rattle.port_clocks.proofs.Counts.{Rises, before_above, before_below, before_most, before_later}

-- by how many they are ahead at most in the clocks that come right after the first n of the first list
pub record IsMostOf (xs ys : List ℕ) (n most : ℕ) : Type 0 where
  pub few : most ≤ n
  pub each : (k : ℕ) → k < n → k + 1 ≤ most + before ys (get_or xs k 0 + 1)
  pub reached : 0 < most → (k : ℕ) × (k < n) × (most + before ys (get_or xs k 0 + 1) ≤ k + 1)

pub none_yet : (xs ys : List ℕ) → IsMostOf xs ys 0 0
none_yet xs ys = record { few = omega arith; each = λ k l. absurd (omega arith); reached = λ l. absurd (omega arith) }

-- ---- one more

after_is : (ys : List ℕ) (j x : ℕ) → j < length ys → unwrap_or (option_map (λ y. ltb x y) (slice_get ys j)) true ≡ ltb x (get_or ys j 0)
after_is ys j x l = ap (λ (o : Option ℕ). unwrap_or (option_map (λ y. ltb x y) o) true) (slice_get-get_or ys j 0 l)

few_before : (ys : List ℕ) → Rises ys → (j x : ℕ) → unwrap_or (option_map (λ y. ltb x y) (slice_get ys j)) true ≡ true
    → before ys (x + 1) ≤ j
few_before ys r j x e = elim (cases_lt j (length ys)) [
  | inl w ↦
      let less = ltb-true x (get_or ys j 0) (sym (after_is ys j x w) ∙ e) in
      before_below ys r j (x + 1) w (omega arith)
  | inr w ↦ omega (arith, before_most ys (x + 1))
]

many_before : (ys : List ℕ) → Rises ys → (j x : ℕ) → unwrap_or (option_map (λ y. ltb x y) (slice_get ys j)) true ≡ false
    → suc j ≤ before ys (x + 1)
many_before ys r j x e = elim (cases_lt j (length ys)) [
  | inl w ↦
      let least = ltb-false x (get_or ys j 0) (sym (after_is ys j x w) ∙ e) in
      before_above ys r j (x + 1) w (omega arith)
  | inr w ↦
      let past : true ≡ false = sym (ap (λ (o : Option ℕ). unwrap_or (option_map (λ y. ltb x y) o) true) (slice_get_past ys j w)) ∙ e in cc
]

-- one more than before at most
next_most : (xs ys : List ℕ) → Rises xs → (n most : ℕ) → n < length xs → IsMostOf xs ys n most
    → n ≤ most + before ys (get_or xs n 0 + 1)
next_most xs ys r zero most l h = omega arith
next_most xs ys r (suc n) most l h =
    let last = h.each n (omega arith) in
    let rises : get_or xs n 0 ≤ get_or xs (suc n) 0 = r n (suc n) 0 (omega arith) l in
    omega (arith, before_later ys (get_or xs n 0 + 1) (get_or xs (suc n) 0 + 1) (omega arith))

each_more : (xs ys : List ℕ) (n most : ℕ) → ((k : ℕ) → k < n → k + 1 ≤ most + before ys (get_or xs k 0 + 1))
    → n + 1 ≤ most + before ys (get_or xs n 0 + 1) → (k : ℕ) → k < n + 1 → k + 1 ≤ most + before ys (get_or xs k 0 + 1)
each_more xs ys n most each new k l = elim (cases_lt k n) [
  | inl w ↦ each k w
  | inr w ↦ let z : n ≡ k = omega arith in subst (λ (j : ℕ). j + 1 ≤ most + before ys (get_or xs j 0 + 1)) z new
]

pub one_ahead : (xs ys : List ℕ) → Rises xs → Rises ys → (n most : ℕ) → n < length xs
    → unwrap_or (option_map (λ y. ltb (get_or xs n 0) y) (slice_get ys (n - most))) true ≡ true
    → IsMostOf xs ys n most → IsMostOf xs ys (n + 1) (most + 1)
one_ahead xs ys r s n most l e h =
    let few = h.few in
    let now = few_before ys s (n - most) (get_or xs n 0) e in
    let most_now = next_most xs ys r n most l h in
    record {
      few = omega arith;
      each = each_more xs ys n (most + 1) (λ k m. let a = h.each k m in omega arith) (omega arith);
      reached = λ m. (n, omega arith, omega arith);
    }

pub none_ahead : (xs ys : List ℕ) → Rises ys → (n most : ℕ)
    → unwrap_or (option_map (λ y. ltb (get_or xs n 0) y) (slice_get ys (n - most))) true ≡ false
    → IsMostOf xs ys n most → IsMostOf xs ys (n + 1) most
none_ahead xs ys s n most e h =
    let few = h.few in
    let now = many_before ys s (n - most) (get_or xs n 0) e in
    record {
      few = omega arith;
      each = each_more xs ys n most h.each (omega arith);
      reached = λ m. let (k, a, b) = h.reached m in (k, omega arith, b);
    }

-- ---- the greatest

abbrev pub greatest : (ℕ → ℕ) → ℕ → ℕ
greatest g n = fold max 0 (map g (range_with_len 0 n))

pub greatest_more : (g : ℕ → ℕ) (n : ℕ) → greatest g (suc n) ≡ max (greatest g n) (g n)
greatest_more g n =
    ap (greatest g) (sym (add-one n))
    ∙ (ap (fold max 0) (map-range_with_len_more g 0 n n (zero-add n)) ∙ fold-append max 0 (map g (range_with_len 0 n)) (g n ∷ []))

pub greatest_over : (g : ℕ → ℕ) (n c : ℕ) → c < n → g c ≤ greatest g n
greatest_over g zero c l = absurd (omega arith)
greatest_over g (suc n) c l = elim (cases_lt c n) [
  | inl w ↦ omega (arith, greatest_more g n, greatest_over g n c w)
  | inr w ↦ let z : g n ≡ g c = ap g (omega arith) in omega (arith, greatest_more g n)
]

pub greatest_under : (g : ℕ → ℕ) (n m : ℕ) → ((c : ℕ) → c < n → g c ≤ m) → greatest g n ≤ m
greatest_under g zero m h = omega arith
greatest_under g (suc n) m h =
    omega (arith, greatest_more g n, greatest_under g n m (λ c l. h c (omega arith)), h n (omega arith))

never_more : (xs ys : List ℕ) → Rises xs → (most : ℕ) → IsMostOf xs ys (length xs) most → (c : ℕ) → before xs c - before ys c ≤ most
never_more xs ys r most h c = by_count (before xs c) refl
  where
    by_count : (n : ℕ) → before xs c ≡ n → before xs c - before ys c ≤ most
    by_count zero e = omega arith
    by_count (suc k) e =
        let inside : k < length xs = omega (arith, before_most xs c) in
        let early : get_or xs k 0 < c = elim (cases_lt (get_or xs k 0) c) [
          | inl w ↦ w
          | inr w ↦ absurd (omega (arith, before_below xs r k c inside w))
        ] in
        omega (arith, h.each k inside, before_later ys (get_or xs k 0 + 1) c (omega arith))

pub most_is : (xs ys : List ℕ) → Rises xs → (most clock : ℕ) → All (λ x. x < clock) xs → IsMostOf xs ys (length xs) most
    → most ≡ most_ahead xs ys clock
unfolding most_ahead
most_is xs ys r most clock early h =
    let g = λ (c : ℕ). before xs c - before ys c in
    let under = greatest_under g (clock + 1) most (λ c l. never_more xs ys r most h c) in
    elim (cases_lt 0 most) [
      | inl w ↦
          let (k, l, e) = h.reached w in
          let now = get_or xs k 0 + 1 in
          let in_time : get_or xs k 0 < clock = early k 0 l in
          omega (arith, under, greatest_over g (clock + 1) now (omega arith), before_above xs r k now l (omega arith))
      | inr w ↦ omega (arith, under)
    ]
