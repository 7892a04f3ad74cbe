-- Folds over lists, by their elements.
use Rattle.std.proofs.Common.{◌≡◌, ◌≢◌, ℕ, zero, suc, ◌<◌, List, [], ◌∷◌, length, get_or, refl, sym, ◌∙◌, subst, arith, ◌⊎◌, inl, inr}
use Rattle.std.specs.List.{fold, All}

-- an element of a list
abbrev pub Among : {A : Type 0} → A → List A → Type 0
Among x [] = ⊥
Among x (y ∷ ys) = (x ≡ y) ⊎ Among x ys

pub fold_both : {A R S : Type 0} (P : R → S → Type 0) (f : R → A → R) (g : S → A → S) (xs : List A)
    → ((r : R) (s : S) (x : A) → Among x xs → P r s → P (f r x) (g s x)) → (r : R) (s : S) → P r s → P (fold f r xs) (fold g s xs)
fold_both P f g [] step r s h = h
fold_both P f g (x ∷ xs) step r s h =
    fold_both P f g xs (λ r s y among. step r s y (inr among)) (f r x) (g s x) (step r s x (inl refl) h)

pub fold_keeps : {A R : Type 0} (P : R → Type 0) (f : R → A → R) (xs : List A)
    → ((r : R) (x : A) → Among x xs → P r → P (f r x)) → (r : R) → P r → P (fold f r xs)
fold_keeps P f [] step r h = h
fold_keeps P f (x ∷ xs) step r h = fold_keeps P f xs (λ r y among. step r y (inr among)) (f r x) (step r x (inl refl) h)

pub among_all : {A : Type 0} (P : A → Type 0) (xs : List A) → All P xs → (x : A) → Among x xs → P x
among_all P [] h x among = absurd among
among_all P (y ∷ ys) h x (inl same) = subst P (sym same) (h 0 y (omega arith))
among_all P (y ∷ ys) h x (inr among) = among_all P ys (λ k d l. h (suc k) d (omega arith)) x among

pub among_at : {A : Type 0} (xs : List A) (n : ℕ) (d : A) → n < length xs → Among (get_or xs n d) xs
among_at [] n d l = absurd (omega arith)
among_at (x ∷ xs) zero d l = inl refl
among_at (x ∷ xs) (suc n) d l = inr (among_at xs n d (omega arith))

-- what no element changes
pub fold_none : {A R V : Type 0} (P : R → Type 0) (step : R → A → R) (f : R → V) (xs : List A) (d : A)
    → ((r : R) (x : A) → P r → P (step r x))
    → ((k : ℕ) → k < length xs → (r : R) → P r → f (step r (get_or xs k d)) ≡ f r)
    → (r : R) → P r → f (fold step r xs) ≡ f r
fold_none P step f [] d keeps leaves r h = refl
fold_none P step f (x ∷ xs) d keeps leaves r h =
    fold_none P step f xs d keeps (λ k l. leaves (suc k) (omega arith)) (step r x) (keeps r x h) ∙ leaves 0 (omega arith) r h

-- what one element alone changes
pub fold_one : {A R V : Type 0} (P : R → Type 0) (step : R → A → R) (f : R → V) (xs : List A) (q : ℕ) (d : A) (v w : V)
    → q < length xs
    → ((r : R) (x : A) → P r → P (step r x))
    → ((k : ℕ) → k < length xs → k ≢ q → (r : R) → P r → f (step r (get_or xs k d)) ≡ f r)
    → ((r : R) → P r → f r ≡ v → f (step r (get_or xs q d)) ≡ w)
    → (r : R) → P r → f r ≡ v → f (fold step r xs) ≡ w
fold_one P step f [] q d v w l keeps leaves here r h e = absurd (omega arith)
fold_one P step f (x ∷ xs) zero d v w l keeps leaves here r h e =
    fold_none P step f xs d keeps (λ k m. leaves (suc k) (omega arith) (omega arith)) (step r x) (keeps r x h) ∙ here r h e
fold_one P step f (x ∷ xs) (suc q) d v w l keeps leaves here r h e =
    fold_one P step f xs q d v w (omega arith) keeps (λ k m other. leaves (suc k) (omega arith) (omega arith)) here (step r x) (keeps r x h)
    (leaves 0 (omega arith) (omega arith) r h ∙ e)
