-- What the first of a round is.
use Rattle.std.proofs.Common.{◌≡◌, ℕ, zero, suc, ◌+◌, ◌-◌, ◌<◌, ◌≤◌, Bool, true, false, inl, inr, refl, sym, ap, ap₂, ◌∙◌, subst, cond}
use Rattle.std.proofs.Common.{arith, Option, Some, None}
use Rattle.std.proofs.lemmas.Bool.{cases_Bool, cases_lt, cases_eq, cond-true, cond-false}
use Rattle.std.specs.Option.{option_or}
use Rattle.timing_bridge.specs.{first_from, first_round}

module _ (test : ℕ → Bool) where
  pub from_passes : (a n m : ℕ) → first_from test a n ≡ Some m → test m ≡ true
  from_passes a zero m e = cc
  from_passes a (suc n) m e =
      elim (cases_Bool (test a)) [
        | inl t ↦ let z = sym (cond-true (test a) (Some a) (first_from test (suc a) n) t) ∙ e in cc
        | inr f ↦ from_passes (suc a) n m (sym (cond-false (test a) (Some a) (first_from test (suc a) n) f) ∙ e)
      ]

  pub from_first : (a n m : ℕ) → first_from test a n ≡ Some m → (k : ℕ) → a ≤ k → k < m → test k ≡ false
  from_first a zero m e k l u = cc
  from_first a (suc n) m e k l u =
      elim (cases_Bool (test a)) [
        | inl t ↦
            let z : Some a ≡ Some m = sym (cond-true (test a) (Some a) (first_from test (suc a) n) t) ∙ e in
            let same : a ≡ m = cc in
            absurd (omega (arith, same, l, u))
        | inr f ↦
            elim (cases_lt a k) [
              | inl less ↦
                  from_first (suc a) n m (sym (cond-false (test a) (Some a) (first_from test (suc a) n) f) ∙ e) k (omega (arith, less)) u
              | inr more ↦ let same : k ≡ a = omega (arith, l, more) in ap test same ∙ f
            ]
      ]

  pub from_none : (a n : ℕ) → first_from test a n ≡ None → (k : ℕ) → a ≤ k → k < a + n → test k ≡ false
  from_none a zero e k l u = absurd (omega (arith, l, u))
  from_none a (suc n) e k l u =
      elim (cases_Bool (test a)) [
        | inl t ↦ let z = sym (cond-true (test a) (Some a) (first_from test (suc a) n) t) ∙ e in cc
        | inr f ↦
            elim (cases_lt a k) [
              | inl less ↦
                  from_none (suc a) n (sym (cond-false (test a) (Some a) (first_from test (suc a) n) f) ∙ e) k
                  (omega (arith, less)) (omega (arith, u))
              | inr more ↦ let same : k ≡ a = omega (arith, l, more) in ap test same ∙ f
            ]
      ]

  -- where none passes, none is found
  pub none_from : (a n : ℕ) → ((k : ℕ) → a ≤ k → k < a + n → test k ≡ false) → first_from test a n ≡ None
  none_from a zero none = refl
  none_from a (suc n) none =
      cond-false (test a) (Some a) (first_from test (suc a) n) (none a (omega arith) (omega arith))
      ∙ none_from (suc a) n (λ k l u. none k (omega (arith, l)) (omega (arith, u)))

  -- the first that passes is found
  pub from_found : (a n m : ℕ) → a ≤ m → m < a + n → ((k : ℕ) → a ≤ k → k < m → test k ≡ false) → test m ≡ true
      → first_from test a n ≡ Some m
  from_found a zero m l u before here = absurd (omega (arith, l, u))
  from_found a (suc n) m l u before here =
      elim (cases_eq a m) [
        | inl e ↦ cond-true (test a) (Some a) (first_from test (suc a) n) (ap test e ∙ here) ∙ ap Some e
        | inr e ↦
            cond-false (test a) (Some a) (first_from test (suc a) n) (before a (omega arith) (omega (arith, l, e)))
            ∙ from_found (suc a) n m (omega (arith, l, e)) (omega (arith, u)) (λ k p q. before k (omega (arith, p)) q) here
      ]

  -- one that fails at the end is none
  from_last : (a n : ℕ) → test (a + n) ≡ false → first_from test a (suc n) ≡ first_from test a n
  from_last a zero e = cond-false (test a) (Some a) None (subst (λ (k : ℕ). test k ≡ false) (omega arith) e)
  from_last a (suc n) e =
      ap (λ (o : Option ℕ). cond (test a) (Some a) o)
      (from_last (suc a) n (subst (λ (k : ℕ). test k ≡ false) (omega arith) e))

  -- ---- going round

  -- from one that fails, and from the one after it
  pub round_on : (count at : ℕ) → at < count → test at ≡ false → first_round test count at ≡ first_round test count (suc at)
  round_on count at l e =
      let left : count - at ≡ suc (count - suc at) = omega arith in
      ap (λ (n : ℕ). option_or (first_from test at n) (first_from test 0 at)) left
      ∙ ap₂ option_or (cond-false (test at) (Some at) (first_from test (suc at) (count - suc at)) e)
      (sym (from_last 0 at (subst (λ (k : ℕ). test k ≡ false) (omega arith) e)))

  -- from the count, and from 0
  pub round_over : (count : ℕ) → first_round test count count ≡ first_round test count 0
  round_over count =
      let none : count - count ≡ 0 = omega arith in
      let all : count - 0 ≡ count = omega arith in
      ap (λ (n : ℕ). option_or (first_from test count n) (first_from test 0 count)) none
      ∙ sym (ap (λ (n : ℕ). option_or (first_from test 0 n) None) all ∙ either (first_from test 0 count))
    where
      either : (o : Option ℕ) → option_or o None ≡ o
      either None = refl
      either (Some k) = refl

  pub round_here : (count at : ℕ) → at < count → test at ≡ true → first_round test count at ≡ Some at
  round_here count at l e =
      ap (λ (o : Option ℕ). option_or o (first_from test 0 at))
      (from_found at (count - at) at (omega arith) (omega (arith, l)) (λ k p q. absurd (omega (arith, p, q))) e)

  pub round_passes : (count at m : ℕ) → first_round test count at ≡ Some m → test m ≡ true
  round_passes count at m e = either (first_from test at (count - at)) refl e
    where
      either : (o : Option ℕ) → first_from test at (count - at) ≡ o → option_or o (first_from test 0 at) ≡ Some m → test m ≡ true
      either None s q = from_passes 0 at m q
      either (Some k) s q = from_passes at (count - at) m (s ∙ q)

  pub round_none : (count at : ℕ) → first_round test count at ≡ None → (k : ℕ) → k < count → test k ≡ false
  round_none count at e k l = either (first_from test at (count - at)) refl e
    where
      either : (o : Option ℕ) → first_from test at (count - at) ≡ o → option_or o (first_from test 0 at) ≡ None → test k ≡ false
      either None s q =
          elim (cases_lt k at) [
            | inl less ↦ from_none 0 at q k (omega arith) (omega (arith, less))
            | inr more ↦ from_none at (count - at) s k more (omega (arith, l, more))
          ]
      either (Some j) s q = cc

  pub none_round : (count at : ℕ) → at ≤ count → ((k : ℕ) → k < count → test k ≡ false) → first_round test count at ≡ None
  none_round count at b none =
      ap (λ (o : Option ℕ). option_or o (first_from test 0 at)) (none_from at (count - at) (λ k l u. none k (omega (arith, u, b))))
      ∙ none_from 0 at (λ k l u. none k (omega (arith, u, b)))
