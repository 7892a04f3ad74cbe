-- Tokens taken from the last to the first, as a loop does.
use Rattle.std.proofs.Common.{◌≡◌, ℕ, zero, suc, ◌+◌, ◌≤◌, List, [], ◌∷◌, map, drop, get_or, length, Bool, true, false, Option, None, Some}
use Rattle.std.proofs.Common.{refl, sym, ap, ◌∙◌, arith}
use Rattle.std.specs.Option.{option_and_then}
use Rattle.flow_grammar.specs.{trees_of, with_token, take_token, Takes, ParsedOperand}
use Rattle.flow_grammar.proofs.Trees.{views, more_trees, no_trees}

drop_map : {A : Type 0} (f : A → List ℕ) (k : ℕ) (xs : List A) → drop k (map f xs) ≡ map f (drop k xs)
drop_map f zero xs = refl
drop_map f (suc k) [] = refl
drop_map f (suc k) (x ∷ xs) = drop_map f k xs

cell : {A : Type 0} (xs : List A) (k n : ℕ) (d : A) → n ≡ k + 1 → n ≤ length xs → drop k xs ≡ get_or (drop k xs) 0 d ∷ drop n xs
cell [] k n d e h = absurd (omega arith)
cell (x ∷ xs) zero n d e h = let k : n ≡ 1 = omega arith in rw k refl
cell (x ∷ xs) (suc k) n d e h = let m : n ≡ suc (k + 1) = omega arith in rw m (cell xs k (k + 1) d refl (omega arith))

-- what cannot be read from a place on cannot be read from the beginning
pub no_front : (k : ℕ) (texts : List (List ℕ)) → trees_of (drop k texts) ≡ None → trees_of texts ≡ None
unfolding trees_of
no_front zero texts h = h
no_front (suc k) [] h = h
no_front (suc k) (t ∷ texts) h = ap (option_and_then (with_token t texts)) (no_front k texts h)

module _ {A : Type 0} (f : A → List ℕ) (known : List ℕ → Bool) (xs : List A) (n k : ℕ) (d : A) (rest after : List A)
    (stack : List ParsedOperand)
  where
    module _ (next : n ≡ k + 1) (within : n ≤ length xs) (sofar : Some stack ≡ views known (trees_of (drop n (map f xs))))
        (r : rest ≡ drop k xs) (b : after ≡ drop 1 rest) where
      left : drop n xs ≡ after
      left = sym (b ∙ ap (drop 1) (r ∙ cell xs k n d next within))

      cells : drop k (map f xs) ≡ f (get_or rest 0 d) ∷ map f after
      cells = drop_map f k xs ∙ ap (map f) (cell xs k n d next within) ∙ (λ i. f (get_or (sym r i) 0 d) ∷ map f (left i))

      later : drop n (map f xs) ≡ map f after
      later = drop_map f n xs ∙ ap (map f) left

      pub taken : (stack' : List ParsedOperand) → take_token known (f (get_or rest 0 d)) (map f after) stack ≡ Some stack'
          → Some stack' ≡ views known (trees_of (drop k (map f xs)))
      taken stack' h = rw cells (sym h ∙ more_trees known (f (get_or rest 0 d)) (map f after) stack (rw (← later) sofar))

      pub refused : take_token known (f (get_or rest 0 d)) (map f after) stack ≡ None → None ≡ views known (trees_of (map f xs))
      refused h =
          sym
          (ap (views known)
          (no_front k (map f xs) (rw cells (no_trees known (f (get_or rest 0 d)) (map f after) stack (rw (← later) sofar) h))))

-- before the loop no token is taken
pub at_end : {A : Type 0} (f : A → List ℕ) (known : List ℕ → Bool) (xs : List A) (stack : List ParsedOperand) → stack ≡ []
    → Some stack ≡ views known (trees_of (drop (length xs) (map f xs)))
unfolding trees_of
at_end f known [] stack e = rw e refl
at_end f known (x ∷ xs) stack e = at_end f known xs stack e

pub did_take : (b : Bool) (new : List ParsedOperand) (found : Option (List ParsedOperand)) → b ≡ true → Takes b new found → found ≡ Some new
did_take b new found e t = grind arith

pub did_refuse : (b : Bool) (new : List ParsedOperand) (found : Option (List ParsedOperand)) → b ≡ false → Takes b new found → found ≡ None
did_refuse b new found e t = grind arith
