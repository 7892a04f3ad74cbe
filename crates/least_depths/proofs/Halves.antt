-- What halving finds.
use Rattle.std.proofs.Common.{◌≡◌, ℕ, zero, suc, ◌+◌, ◌-◌, ◌^◌, ◌<◌, ◌≤◌, Bool, true, false, refl, ◌∙◌, ap, arith, inl, inr, ◌*◌}
use Rattle.std.proofs.lemmas.Bool.{cases_Bool, cases_lt, lt-ltb, le-ltb}
use Rattle.least_depths.specs.{Found, halved, untried, tried_one_more, middle}

-- ---- one halving

-- no number is left to try
halved_none : (fits : ℕ → Bool) (n lo hi : ℕ) → hi ≤ lo → halved fits n lo hi ≡ untried lo
unfolding halved
halved_none fits zero lo hi l = refl
halved_none fits (suc n) lo hi l = rw (le-ltb lo hi l) refl

halved_lower : (fits : ℕ → Bool) (n lo hi : ℕ) → lo < hi → fits (middle lo hi) ≡ true
    → halved fits (suc n) lo hi ≡ tried_one_more (halved fits n lo (middle lo hi))
unfolding halved
halved_lower fits n lo hi l e = rw (lt-ltb lo hi l) (rw e refl)

halved_upper : (fits : ℕ → Bool) (n lo hi : ℕ) → lo < hi → fits (middle lo hi) ≡ false
    → halved fits (suc n) lo hi ≡ tried_one_more (halved fits n (suc (middle lo hi)) hi)
unfolding halved
halved_upper fits n lo hi l e = rw (lt-ltb lo hi l) (rw e refl)

-- what holds of all halvings, by their cases
module _ (fits : ℕ → Bool) (P : ℕ → ℕ → Found → Type 0)
    (none : (lo : ℕ) → P lo lo (untried lo))
    (lower : (lo hi : ℕ) (x : Found) → lo < hi → fits (middle lo hi) ≡ true → P lo (middle lo hi) x → P lo hi (tried_one_more x))
    (upper : (lo hi : ℕ) (x : Found) → lo < hi → fits (middle lo hi) ≡ false → P (suc (middle lo hi)) hi x
    → P lo hi (tried_one_more x)) where
  at_end : (n lo hi : ℕ) → lo ≤ hi → hi ≤ lo → P lo hi (halved fits n lo hi)
  at_end n lo hi l done = let same : hi ≡ lo = omega arith in rw (halved_none fits n lo hi done) (rw same (none lo))

  pub by_halves : (n lo hi : ℕ) → lo ≤ hi → hi ≤ lo + n → P lo hi (halved fits n lo hi)
  by_halves zero lo hi l m = at_end zero lo hi l (omega arith)
  by_halves (suc n) lo hi l m = elim (cases_lt lo hi) [
    | inr done ↦ at_end (suc n) lo hi l done
    | inl here ↦ elim (cases_Bool (fits (middle lo hi))) [
      | inl e ↦ rw (halved_lower fits n lo hi here e) (lower lo hi _ here e (by_halves n lo (middle lo hi) (omega arith) (omega arith)))
      | inr e ↦ rw (halved_upper fits n lo hi here e) (upper lo hi _ here e
          (by_halves n (suc (middle lo hi)) hi (omega arith) (omega arith)))
    ]
  ]

-- ---- what is found

pub found_within : (fits : ℕ → Bool) (n lo hi : ℕ) → lo ≤ hi → hi ≤ lo + n
    → (lo ≤ (halved fits n lo hi).number) × ((halved fits n lo hi).number ≤ hi)
found_within fits = by_halves fits (λ lo hi x. (lo ≤ x.number) × (x.number ≤ hi))
    (λ lo. (omega arith, omega arith))
    (λ lo hi x l e h. let (a, b) = h in (omega arith, omega arith))
    (λ lo hi x l e h. let (a, b) = h in (omega arith, omega arith))

-- where the greatest number fits, what is found does
pub found_fits : (fits : ℕ → Bool) (n lo hi : ℕ) → lo ≤ hi → hi ≤ lo + n → fits hi ≡ true → fits (halved fits n lo hi).number ≡ true
found_fits fits = by_halves fits (λ lo hi x. fits hi ≡ true → fits x.number ≡ true)
    (λ lo e. e)
    (λ lo hi x l e h f. h e)
    (λ lo hi x l e h f. h f)

-- where greater numbers fit too, no lesser number than what is found does
pub none_fits_below : (fits : ℕ → Bool) (most : ℕ) → ((a b : ℕ) → 1 ≤ a → a ≤ b → b ≤ most → fits a ≡ true → fits b ≡ true)
    → (n lo hi : ℕ) → lo ≤ hi → hi ≤ lo + n → 1 ≤ lo → hi ≤ most → (k : ℕ) → lo ≤ k → k < (halved fits n lo hi).number → fits k ≡ false
none_fits_below fits most more = by_halves fits
    (λ lo hi x. 1 ≤ lo → hi ≤ most → (k : ℕ) → lo ≤ k → k < x.number → fits k ≡ false)
    (λ lo low high k l m. absurd (omega arith))
    (λ lo hi x l e h low high k a b. h low (omega arith) k a b)
    (λ lo hi x l e h low high k a b. elim (cases_lt (middle lo hi) k) [
      | inl above ↦ h (omega arith) high k above b
      | inr up_to ↦ elim (cases_Bool (fits k)) [
        | inl fit ↦ let middle_fits = more k (middle lo hi) (omega arith) up_to (omega arith) fit in absurd (cc)
        | inr unfit ↦ unfit
      ]
    ])

-- so many tries, by a power of two above the numbers after the first
pub few_tries : (fits : ℕ → Bool) (n lo hi : ℕ) → lo ≤ hi → hi ≤ lo + n → (k : ℕ) → hi - lo < 2 ^ k → (halved fits n lo hi).tries ≤ k
few_tries fits = by_halves fits (λ lo hi x. (k : ℕ) → hi - lo < 2 ^ k → x.tries ≤ k)
    (λ lo k l. omega arith)
    (λ lo hi x l e h k m. more_tries lo hi (middle lo hi - lo) x l (omega arith) h k m)
    (λ lo hi x l e h k m. more_tries lo hi (hi - suc (middle lo hi)) x l (omega arith) h k m)
  where
    more_tries : (lo hi rest : ℕ) (x : Found) → lo < hi → 2 * rest ≤ hi - lo → ((k : ℕ) → rest < 2 ^ k → x.tries ≤ k)
        → (k : ℕ) → hi - lo < 2 ^ k → suc x.tries ≤ k
    more_tries lo hi rest x l half h zero m = absurd (omega arith)
    more_tries lo hi rest x l half h (suc k) m = let less = h k (omega arith) in omega arith

-- the number of tries that are left does not matter, if it is enough
pub enough_tries : (fits : ℕ → Bool) (n lo hi : ℕ) → lo ≤ hi → hi ≤ lo + n → (m : ℕ) → hi ≤ lo + m → halved fits m lo hi
    ≡ halved fits n lo hi
enough_tries fits = by_halves fits (λ lo hi x. (m : ℕ) → hi ≤ lo + m → halved fits m lo hi ≡ x)
    (λ lo m l. halved_none fits m lo lo (omega arith))
    (λ lo hi x l e h m. by_lower lo hi x l e h m)
    (λ lo hi x l e h m. by_upper lo hi x l e h m)
  where
    by_lower : (lo hi : ℕ) (x : Found) → lo < hi → fits (middle lo hi) ≡ true
        → ((m : ℕ) → middle lo hi ≤ lo + m → halved fits m lo (middle lo hi) ≡ x)
        → (m : ℕ) → hi ≤ lo + m → halved fits m lo hi ≡ tried_one_more x
    by_lower lo hi x l e h zero b = absurd (omega arith)
    by_lower lo hi x l e h (suc m) b = halved_lower fits m lo hi l e ∙ ap tried_one_more (h m (omega arith))

    by_upper : (lo hi : ℕ) (x : Found) → lo < hi → fits (middle lo hi) ≡ false
        → ((m : ℕ) → hi ≤ suc (middle lo hi) + m → halved fits m (suc (middle lo hi)) hi ≡ x)
        → (m : ℕ) → hi ≤ lo + m → halved fits m lo hi ≡ tried_one_more x
    by_upper lo hi x l e h zero b = absurd (omega arith)
    by_upper lo hi x l e h (suc m) b = halved_upper fits m lo hi l e ∙ ap tried_one_more (h m (omega arith))

-- ---- one try more

pub lower_half : (fits : ℕ → Bool) (lo hi : ℕ) → lo < hi → fits (middle lo hi) ≡ true
    → halved fits (hi - lo) lo hi ≡ tried_one_more (halved fits (middle lo hi - lo) lo (middle lo hi))
lower_half fits lo hi l e =
    let more : hi - lo ≡ suc (hi - lo - 1) = omega arith in
    ap (λ (n : ℕ). halved fits n lo hi) more ∙ (halved_lower fits (hi - lo - 1) lo hi l e
    ∙ ap tried_one_more (enough_tries fits (middle lo hi - lo) lo (middle lo hi) (omega arith) (omega arith) (hi - lo - 1) (omega arith)))

pub upper_half : (fits : ℕ → Bool) (lo hi : ℕ) → lo < hi → fits (middle lo hi) ≡ false
    → halved fits (hi - lo) lo hi ≡ tried_one_more (halved fits (hi - suc (middle lo hi)) (suc (middle lo hi)) hi)
upper_half fits lo hi l e =
    let more : hi - lo ≡ suc (hi - lo - 1) = omega arith in
    ap (λ (n : ℕ). halved fits n lo hi) more ∙ (halved_upper fits (hi - lo - 1) lo hi l e
    ∙ ap tried_one_more (enough_tries fits (hi - suc (middle lo hi)) (suc (middle lo hi)) hi (omega arith) (omega arith) (hi - lo - 1)
    (omega arith)))

pub none_left : (fits : ℕ → Bool) (n lo hi : ℕ) → hi ≤ lo → halved fits n lo hi ≡ untried lo
none_left = halved_none
