-- Clocks by how many of them are before each clock.
use Rattle.std.proofs.Common.{◌≡◌, ℕ, zero, suc, ◌<◌, ◌≤◌, List, length, get_or, ltb, arith, sym, ◌∙◌, inl, inr}
use Rattle.std.proofs.lemmas.Bool.{cases_lt, lt-ltb, ltb-true}
use Rattle.std.proofs.{lemmas.List.get_or_default, lemmas.Grind.same_number_lists}
use Rattle.std.specs.Prelude.{AllPairs}
use Rattle.port_clocks.specs.{before, AreClocks}
use Rattle.port_clocks.proofs.Counts.{before_above, before_below, before_most}

-- ---- clocks that are told by counts

module _ (clocks : List ℕ) (count : ℕ → ℕ) (end : ℕ)
    (tells : (n c : ℕ) → n < length clocks → ltb n (count c) ≡ ltb (get_or clocks n 0) c) where
  earlier : (n c : ℕ) → n < length clocks → n < count c → get_or clocks n 0 < c
  earlier n c l m = ltb-true (get_or clocks n 0) c (sym (tells n c l) ∙ lt-ltb n (count c) m)

  counted : (n c : ℕ) → n < length clocks → get_or clocks n 0 < c → n < count c
  counted n c l m = ltb-true n (count c) (tells n c l ∙ lt-ltb (get_or clocks n 0) c m)

  in_order : AllPairs (λ a b. a ≤ b) clocks
  in_order i j d l m =
      let later = counted j (suc (get_or clocks j 0)) m (omega arith) in
      let first = earlier i (suc (get_or clocks j 0)) (omega arith) (omega arith) in
      omega (arith, get_or_default clocks i d 0 (omega arith), get_or_default clocks j d 0 m)

  before_is : (c : ℕ) → count c ≤ length clocks → before clocks c ≡ count c
  before_is c few =
      let low = at_least (count c) (omega arith) in
      let high : before clocks c ≤ count c = elim (cases_lt (count c) (length clocks)) [
        | inl w ↦ before_below clocks in_order (count c) c w (late w)
        | inr w ↦ (let most = before_most clocks c in omega arith)
      ] in
      omega arith
    where
      at_least : (n : ℕ) → n ≤ count c → n ≤ before clocks c
      at_least zero l = omega arith
      at_least (suc n) l = before_above clocks in_order n c (omega arith) (earlier n c (omega arith) l)

      late : count c < length clocks → c ≤ get_or clocks (count c) 0
      late w = elim (cases_lt (get_or clocks (count c) 0) c) [
        | inl m ↦ (let more = counted (count c) c w m in absurd (omega arith))
        | inr m ↦ m
      ]

  pub told_clocks : length clocks ≡ count end → AreClocks end clocks
  told_clocks all = record {
    rise = in_order;
    below = λ n d l. let first = earlier n end l (omega arith) in omega (arith, get_or_default clocks n d 0 l);
  }

  pub told_counts : length clocks ≡ count end → (c : ℕ) → count c ≤ count end → before clocks c ≡ count c
  told_counts all c l = before_is c (omega arith)

-- ---- counts tell the clocks

all_before : (end : ℕ) (xs : List ℕ) → AreClocks end xs → before xs end ≡ length xs
all_before end xs h = by_count (length xs) (omega arith)
  where
    most : before xs end ≤ length xs
    most = before_most xs end

    by_count : (n : ℕ) → n ≡ length xs → before xs end ≡ length xs
    by_count zero e = omega (arith, most)
    by_count (suc n) e =
        let early : get_or xs n 0 < end = h.below n 0 (omega arith) in
        let last = before_above xs h.rise n end (omega arith) early in
        omega (arith, most)

module _ (end : ℕ) (xs ys : List ℕ) (h : AreClocks end xs) (k : AreClocks end ys) (same : (c : ℕ) → c ≤ end → before xs c ≡ before ys c)
  where
    no_earlier : (n : ℕ) → n < length xs → n < length ys → get_or xs n 0 < get_or ys n 0 → ⊥
    no_earlier n l m less =
        let c = suc (get_or xs n 0) in
        let early : get_or xs n 0 < end = h.below n 0 l in
        let many = before_above xs h.rise n c l (omega arith) in
        let few = before_below ys k.rise n c m less in
        absurd (omega (arith, same c early))

pub same_clocks : (end : ℕ) (xs ys : List ℕ) → AreClocks end xs → AreClocks end ys → ((c : ℕ) → c ≤ end → before xs c ≡ before ys c) → xs
    ≡ ys
same_clocks end xs ys h k same =
    let many : length xs ≡ length ys = sym (all_before end xs h) ∙ (same end (omega arith) ∙ all_before end ys k) in
    same_number_lists xs ys many (λ n l. elim (cases_lt (get_or xs n 0) (get_or ys n 0)) [
      | inl w ↦ absurd (no_earlier end xs ys h k same n l (omega arith) w)
      | inr w ↦ elim (cases_lt (get_or ys n 0) (get_or xs n 0)) [
        | inl v ↦ absurd (no_earlier end ys xs k h (λ c m. sym (same c m)) n (omega arith) l v)
        | inr v ↦ omega arith
      ]
    ])
