-- Elements of lists, by their places.
use Rattle.std.proofs.Common.{◌≡◌, ◌⊎◌, inl, inr, ⊎_elim, ℕ, zero, suc, List, [], ◌∷◌, ◌++◌, length, Some, slice_get, refl, ap, sym, subst}

module _ {A : Type 0} where
  pub get-snoc : (xs : List A) (x y : A) (k : ℕ) → slice_get (xs ++ x ∷ []) k ≡ Some y
      → (slice_get xs k ≡ Some y) ⊎ ((k ≡ length xs) × (x ≡ y))
  get-snoc [] x y zero e = inr (refl, cc e)
  get-snoc [] x y (suc k) e = absurd (cc e)
  get-snoc (a ∷ xs) x y zero e = inl e
  get-snoc (a ∷ xs) x y (suc k) e = ⊎_elim (λ h. inl h) (λ h. inr (ap suc h.0, h.1)) (get-snoc xs x y k e)

  pub all-snoc : (P : ℕ → A → Type 0) (xs : List A) (x : A) → ((k : ℕ) (y : A) → slice_get xs k ≡ Some y → P k y) → P (length xs) x
      → (k : ℕ) (y : A) → slice_get (xs ++ x ∷ []) k ≡ Some y → P k y
  all-snoc P xs x all is k y e =
      ⊎_elim (λ h. all k y h) (λ h. subst (λ z. P k z) h.1 (subst (λ n. P n x) (sym h.0) is)) (get-snoc xs x y k e)
