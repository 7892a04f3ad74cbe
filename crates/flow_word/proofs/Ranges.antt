-- Ranges of numbers that grow, and options that are one.
use Rattle.std.proofs.Common.{◌≡◌, ℕ, zero, suc, ◌+◌, List, [], ◌∷◌, ◌++◌, ap, ◌∙◌, arith, Option, Some, None, zero-add, add-one}
use Rattle.std.specs.List.{range_with_len}

pub range_more : (a n : ℕ) → range_with_len a (suc n) ≡ range_with_len a n ++ (a + n) ∷ []
range_more a zero = let z : a ≡ a + 0 = omega arith in ap (λ (k : ℕ). k ∷ []) z
range_more a (suc n) =
    let z : (a + 1) + n ≡ a + suc n = omega arith in
    ap (λ (l : List ℕ). a ∷ l) (range_more (a + 1) n ∙ ap (λ (k : ℕ). range_with_len (a + 1) n ++ k ∷ []) z)

pub range_last : (n : ℕ) → range_with_len 0 (n + 1) ≡ range_with_len 0 n ++ n ∷ []
range_last n = ap (range_with_len 0) (add-one n) ∙ (range_more 0 n ∙ ap (λ (k : ℕ). range_with_len 0 n ++ k ∷ []) (zero-add n))

pub some_is : {X : Type 0} → (a b : X) → Some a ≡ Some b → a ≡ b
some_is {X} a b e = ap (λ (o : Option X). by o) e
  where
    by : Option X → X
    by (Some y) = y
    by None = a
