-- The latest of some items, found from the last one back.
use Rattle.std.proofs.Common.{◌≡◌, ℕ, zero, suc, ◌<◌, List, [], ◌∷◌, ◌++◌, map, Bool, true, false, arith, cond, refl, ◌∙◌, ap, subst, ltb}
use Rattle.std.proofs.Common.{Option, Some, None}
use Rattle.std.proofs.{lemmas.Bool.lt-ltb, lemmas.List.Elements.All-from_recursion}
use Rattle.std.specs.{Prelude.option_map, Prelude.AllPairs, List.filter, List.AllByRecursion}
use Rattle.path_text.specs.{later_one, latest_one}

module _ {X : Type 0} (clock : X → ℕ) where
  abbrev pub IsSooner : ℕ → Option X → Type 0
  IsSooner c None = ⊥
  IsSooner c (Some x) = c < clock x

  sooner : (x : X) (o : Option X) → IsSooner (clock x) o → later_one clock x o ≡ o
  sooner x None h = absurd h
  sooner x (Some y) h = rw (lt-ltb (clock x) (clock y) h) refl

  -- items before the latest do not count
  pub ahead : (test : X → Bool) (xs ys : List X) → AllByRecursion (λ x. test x ≡ true → IsSooner (clock x) (latest_one clock (filter test
      ys))) xs
      → latest_one clock (filter test (xs ++ ys)) ≡ latest_one clock (filter test ys)
  ahead test [] ys h = refl
  ahead test (x ∷ xs) ys h = by_test (test x) refl (ahead test xs ys h.1)
    where
      by_test : (b : Bool) → test x ≡ b → latest_one clock (filter test (xs ++ ys)) ≡ latest_one clock (filter test ys)
          → latest_one clock (cond b (x ∷ filter test (xs ++ ys)) (filter test (xs ++ ys))) ≡ latest_one clock (filter test ys)
      by_test false e rest = rest
      by_test true e rest = ap (later_one clock x) rest ∙ sooner x (latest_one clock (filter test ys)) (h.0 e)

  -- none of no items
  pub none : (test : X → Bool) (xs : List X) → AllByRecursion (λ x. test x ≡ false) xs → filter test xs ≡ []
  none test [] h = refl
  none test (x ∷ xs) h = rw h.0 (none test xs h.1)

  -- what holds of all holds of the latest
  pub of_all : (P : X → Type 0) (xs : List X) → AllByRecursion P xs → (x : X) → latest_one clock xs ≡ Some x → P x
  of_all P [] h x e = absurd cc
  of_all P (y ∷ ys) h x e = by_rest (latest_one clock ys) (of_all P ys h.1) e
    where
      by_test : (b : Bool) (z : X) → P z → cond b (Some z) (Some y) ≡ Some x → P x
      by_test true z there e = let same : z ≡ x = cc in subst P same there
      by_test false z there e = let same : y ≡ x = cc in subst P same h.0

      by_rest : (o : Option X) → ((z : X) → o ≡ Some z → P z) → later_one clock y o ≡ Some x → P x
      by_rest None rest e = let same : y ≡ x = cc in subst P same h.0
      by_rest (Some z) rest e = by_test (ltb (clock y) (clock z)) z (rest z refl) e

pub all_filter : {X : Type 0} (P Q : X → Type 0) (test : X → Bool) → ((x : X) → P x → test x ≡ true → Q x) → (xs : List X)
    → AllByRecursion P xs → AllByRecursion Q (filter test xs)
all_filter P Q test f [] h = tt
all_filter {X} P Q test f (x ∷ xs) h = by_test (test x) refl (all_filter P Q test f xs h.1)
  where
    by_test : (b : Bool) → test x ≡ b → AllByRecursion Q (filter test xs) → AllByRecursion Q (cond b (x ∷ filter test xs) (filter test xs))
    by_test true e rest = (f x h.0 e, rest)
    by_test false e rest = rest

-- the latest by what the items stand for
pub mapped : {X Y : Type 0} (f : X → Y) (clock : Y → ℕ) (xs : List X)
    → option_map f (latest_one (λ x. clock (f x)) xs) ≡ latest_one clock (map f xs)
mapped f clock [] = refl
mapped {X} {Y} f clock (x ∷ xs) = by_rest (latest_one (λ x. clock (f x)) xs) ∙ ap (later_one clock (f x)) (mapped f clock xs)
  where
    by_rest : (o : Option X) → option_map f (later_one (λ x. clock (f x)) x o) ≡ later_one clock (f x) (option_map f o)
    by_rest None = refl
    by_rest (Some y) = by_test (ltb (clock (f x)) (clock (f y)))
      where
        by_test : (b : Bool) → option_map f (cond b (Some y) (Some x)) ≡ cond b (Some (f y)) (Some (f x))
        by_test true = refl
        by_test false = refl

-- ---- pairs

-- each of them stands so to all after it
abbrev pub InTurn : {X : Type 0} → (X → X → Type 0) → List X → Type 0
InTurn R [] = Unit {0}
InTurn R (x ∷ xs) = AllByRecursion (R x) xs × InTurn R xs

pub in_turn : {X : Type 0} (R : X → X → Type 0) (xs : List X) → InTurn R xs → AllPairs R xs
in_turn R [] h i j d l m = absurd (omega arith)
in_turn R (x ∷ xs) h zero zero d l m = absurd (omega arith)
in_turn R (x ∷ xs) h zero (suc j) d l m = All-from_recursion (R x) xs h.0 j d (omega arith)
in_turn R (x ∷ xs) h (suc i) zero d l m = absurd (omega arith)
in_turn R (x ∷ xs) h (suc i) (suc j) d l m = in_turn R xs h.1 i j d (omega arith) (omega arith)
