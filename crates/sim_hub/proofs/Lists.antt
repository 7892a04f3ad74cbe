-- Lists of what is lent, and how many of it there are.
use Rattle.std.proofs.Common.{◌≡◌, ℕ, zero, suc, ◌+◌, ◌<◌, ◌≤◌, ◌⊎◌, inl, inr, refl, sym, ap, ◌∙◌, subst, arith, List, [], ◌∷◌, ◌++◌}
use Rattle.std.proofs.Common.{Option, Some, None, Bool, true, false, cond, length, filter}
use Rattle.std.specs.Prelude.{get_or, slice_set, slice_get, map, is_some, replicate}
use Rattle.sim_hub.specs.{is_lent_to, not_to}

-- ---- one place

pub set_true : (bs : List Bool) (m : ℕ) → get_or (slice_set bs m true) m true ≡ true
set_true [] m = refl
set_true (b ∷ bs) zero = refl
set_true (b ∷ bs) (suc m) = set_true bs m

pub set_keeps : (bs : List Bool) (m n : ℕ) → get_or bs n true ≡ true → get_or (slice_set bs m true) n true ≡ true
set_keeps [] m n e = e
set_keeps (b ∷ bs) zero zero e = refl
set_keeps (b ∷ bs) zero (suc n) e = e
set_keeps (b ∷ bs) (suc m) zero e = e
set_keeps (b ∷ bs) (suc m) (suc n) e = set_keeps bs m n e

pub set_none : (os : List (Option ℕ)) (m : ℕ) → get_or (slice_set os m None) m None ≡ None
set_none [] m = refl
set_none (o ∷ os) zero = refl
set_none (o ∷ os) (suc m) = set_none os m

-- a place that is not as beyond the end is within
pub within_false : (bs : List Bool) (m : ℕ) → get_or bs m true ≡ false → m < length bs
within_false [] m e = absurd (cc)
within_false (b ∷ bs) zero e = omega arith
within_false (b ∷ bs) (suc m) e = let h = within_false bs m e in omega arith

pub within_some : (os : List (Option ℕ)) (m q : ℕ) → get_or os m None ≡ Some q → m < length os
within_some [] m q e = absurd (cc)
within_some (o ∷ os) zero q e = omega arith
within_some (o ∷ os) (suc m) q e = let h = within_some os m q e in omega arith

pub none_replicated : (many m : ℕ) → get_or {A = Option ℕ} (replicate many None) m None ≡ None
none_replicated zero m = refl
none_replicated (suc many) zero = refl
none_replicated (suc many) (suc m) = none_replicated many m

-- ---- how many

pub count_set : (os : List (Option ℕ)) (m q : ℕ) → length (filter is_some (slice_set os m (Some q))) ≤ length (filter is_some os) + 1
count_set [] m q = omega arith
count_set (None ∷ os) zero q = omega arith
count_set (Some r ∷ os) zero q = omega arith
count_set (None ∷ os) (suc m) q = count_set os m q
count_set (Some r ∷ os) (suc m) q = let h = count_set os m q in omega arith

pub count_cleared : (os : List (Option ℕ)) (m q : ℕ) → get_or os m None ≡ Some q
    → length (filter is_some (slice_set os m None)) + 1 ≡ length (filter is_some os)
count_cleared [] m q e = absurd (cc)
count_cleared (None ∷ os) zero q e = absurd (cc)
count_cleared (Some r ∷ os) zero q e = omega arith
count_cleared (None ∷ os) (suc m) q e = count_cleared os m q e
count_cleared (Some r ∷ os) (suc m) q e = let h = count_cleared os m q e in omega arith

pub count_mapped : (r : ℕ) (os : List (Option ℕ)) → length (filter is_some (map (not_to r) os)) ≤ length (filter is_some os)
count_mapped r [] = omega arith
count_mapped r (None ∷ os) = count_mapped r os
count_mapped r (Some k ∷ os) =
    let h = count_mapped r os in
    elim (is_lent_to (Some k) r) as
    (λ b. length (filter is_some (cond b None (Some k) ∷ map (not_to r) os)) ≤ length (filter is_some (Some k ∷ os))) [
      | true ↦ omega arith
      | false ↦ omega arith
    ]

pub count_given_up : (r m : ℕ) (os : List (Option ℕ)) → get_or os m None ≡ Some r → is_lent_to (Some r) r ≡ true
    → length (filter is_some (map (not_to r) os)) + 1 ≤ length (filter is_some os)
count_given_up r m [] e same = absurd (cc)
count_given_up r zero (None ∷ os) e same = absurd (cc)
count_given_up r zero (Some k ∷ os) e same =
    let h = count_mapped r os in
    let gone : is_lent_to (Some k) r ≡ true = ap (λ (o : Option ℕ). is_lent_to o r) e ∙ same in
    subst (λ (b : Bool). length (filter is_some (cond b None (Some k) ∷ map (not_to r) os)) + 1 ≤ length (filter is_some (Some k ∷ os)))
    (sym gone) (omega arith)
count_given_up r (suc m) (None ∷ os) e same = count_given_up r m os e same
count_given_up r (suc m) (Some k ∷ os) e same =
    let h = count_given_up r m os e same in
    elim (is_lent_to (Some k) r) as
    (λ b. length (filter is_some (cond b None (Some k) ∷ map (not_to r) os)) + 1 ≤ length (filter is_some (Some k ∷ os))) [
      | true ↦ omega arith
      | false ↦ omega arith
    ]

pub none_counted : (os : List (Option ℕ)) (m q : ℕ) → get_or os m None ≡ Some q → 1 ≤ length (filter is_some os)
none_counted os m q e = let h = count_cleared os m q e in omega arith

pub count_none : (many : ℕ) → length (filter (is_some {T = ℕ}) (replicate many None)) ≡ 0
count_none zero = refl
count_none (suc many) = count_none many

-- ---- lists of places in order

pub get_mapped : {A B : Type 0} (f : A → B) (xs : List A) (k : ℕ) (a : A) → slice_get xs k ≡ Some a → slice_get (map f xs) k ≡ Some (f a)
get_mapped {A} {B} f [] k a e = absurd (cc)
get_mapped {A} {B} f (x ∷ xs) zero a e = let same : x ≡ a = cc in ap (λ (y : A). Some (f y)) same
get_mapped {A} {B} f (x ∷ xs) (suc k) a e = get_mapped f xs k a e

pub there : {A : Type 0} (xs : List A) (i : ℕ) → i < length xs → (a : A) × (slice_get xs i ≡ Some a)
there {A} [] i h = absurd (omega arith)
there {A} (x ∷ xs) zero h = (x, refl)
there {A} (x ∷ xs) (suc i) h = there xs i (omega arith)

-- an item of a list with one more at its end is that one, or was there
pub get_snoc : {A : Type 0} (xs : List A) (x a : A) (k : ℕ) → slice_get (xs ++ x ∷ []) k ≡ Some a
    → (slice_get xs k ≡ Some a) ⊎ ((k ≡ length xs) × (x ≡ a))
get_snoc {A} [] x a zero e = inr (refl, cc)
get_snoc {A} [] x a (suc k) e = absurd (cc)
get_snoc {A} (y ∷ xs) x a zero e = inl e
get_snoc {A} (y ∷ xs) x a (suc k) e = elim (get_snoc xs x a k e) [ inl there ↦ inl there | inr (last, same) ↦ inr (ap suc last, same) ]
