-- Beginnings of lists.
use Rattle.std.proofs.Common.{◌≡◌, refl, sym, ap, ap₂, ◌∙◌, ℕ, zero, suc, ◌+◌, List, [], ◌∷◌, ◌++◌, length, drop, Some, slice_get, arith}
use Rattle.sim_core.specs.{Begins}
use Rattle.run_ahead.proofs.Finding.{drop_none}

pub get_drop : (xs : List ℕ) (n i : ℕ) → slice_get (drop n xs) i ≡ slice_get xs (n + i)
get_drop xs zero i = let z : 0 + i ≡ i = omega arith in rw z refl
get_drop [] (suc n) i = refl
get_drop (x ∷ xs) (suc n) i = let z : suc n + i ≡ suc (n + i) = omega arith in rw z (get_drop xs n i)

pub drop_twice : (xs : List ℕ) (m n : ℕ) → drop n (drop m xs) ≡ drop (m + n) xs
drop_twice xs zero n = let z : 0 + n ≡ n = omega arith in rw z refl
drop_twice [] (suc m) n = drop_none n ∙ sym (drop_none (suc m + n))
drop_twice (x ∷ xs) (suc m) n = let z : suc m + n ≡ suc (m + n) = omega arith in rw z (drop_twice xs m n)

pub drop_front : (xs ys : List ℕ) → drop (length xs) (xs ++ ys) ≡ ys
drop_front [] ys = refl
drop_front (x ∷ xs) ys = drop_front xs ys

pub begins_drop : (n : ℕ) (xs ys more : List ℕ) → xs ≡ ys ++ more → Begins (drop n xs) (drop n ys)
begins_drop zero xs ys more e = (more, e)
begins_drop (suc n) xs [] more e = (drop (suc n) xs, refl)
begins_drop (suc n) xs (y ∷ ys) more e = let (m, q) = begins_drop n (ys ++ more) ys more refl in (m, ap (drop (suc n)) e ∙ q)

-- a list whose places have what they have in the other begins it
pub begins_places : (xs ys : List ℕ) → ((i v : ℕ) → slice_get ys i ≡ Some v → slice_get xs i ≡ Some v) → Begins xs ys
begins_places xs [] f = (xs, refl)
begins_places [] (y ∷ ys) f = let e = f 0 y refl in cc
begins_places (x ∷ xs) (y ∷ ys) f =
    let e : Some x ≡ Some y = f 0 y refl in
    let same : x ≡ y = cc in
    let (more, q) = begins_places xs ys (λ i v g. f (suc i) v g) in
    (more, ap₂ (λ (z : ℕ) (zs : List ℕ). z ∷ zs) same q)
