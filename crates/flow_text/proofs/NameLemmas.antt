-- A table of names by its keys, and names in joined tables.
use Rattle.std.proofs.Common.{◌≡◌, ℕ, List, [], ◌∷◌, ◌++◌, map, Bool, false, refl, sym, ap, ◌∙◌, nat_eq, arith}
use Rattle.std.proofs.{lemmas.List.map-append, lemmas.List.reverse-append, lemmas.Bool.or_parts, lemmas.List.Folds.list_any-append}
use Rattle.std.specs.{Prelude.◌||◌, Prelude.if◌then◌else◌, Prelude.reverse, List.list_any, Cmp.Lexicographic.pointwise}
use Rattle.flow_text.specs.{is_among}

pub among_append : (xs ys : List (List ℕ)) (n : List ℕ) → is_among (xs ++ ys) n ≡ is_among xs n || is_among ys n
among_append xs ys n = list_any-append (pointwise nat_eq n) xs ys

-- the order of names does not matter
pub among_reverse : (xs : List (List ℕ)) (n : List ℕ) → is_among (reverse xs) n ≡ is_among xs n
among_reverse [] n = refl
among_reverse (x ∷ xs) n =
    let later = among_reverse xs n in
    let both = among_append (reverse xs) (x ∷ []) n in
    ap (λ (ys : List (List ℕ)). is_among ys n) (reverse-append (x ∷ []) xs) ∙ grind arith

-- a name in neither of two tables
pub absent_append : (xs ys : List (List ℕ)) (n : List ℕ) → is_among (xs ++ ys) n ≡ false → (is_among xs n ≡ false) × (is_among ys n ≡ false)
absent_append xs ys n h = or_parts (is_among xs n) (is_among ys n) (sym (among_append xs ys n) ∙ h)

module _ {A : Type 0} (f : A → List ℕ) where
  among_keys : (keys : List A) (n : List ℕ) → list_any (λ k. pointwise nat_eq n (f k)) keys ≡ is_among (map f keys) n
  among_keys [] n = refl
  among_keys (k ∷ keys) n = ap (λ (b : Bool). pointwise nat_eq n (f k) || b) (among_keys keys n)

  -- a look-up by the keys
  pub key_among : (keys : List A) (n : List ℕ) (table : List (List ℕ)) → reverse (map f keys) ≡ table
      → list_any (λ k. pointwise nat_eq n (f k)) keys ≡ is_among table n
  key_among keys n table t = among_keys keys n ∙ sym (among_reverse (map f keys) n) ∙ ap (λ (ns : List (List ℕ)). is_among ns n) t

  -- one key more is the latest name
  pub key_added : (keys new : List A) (k : A) (table : List (List ℕ)) → reverse (map f keys) ≡ table → is_among table (f k) ≡ false
      → new ≡ (if list_any (λ y. pointwise nat_eq (f k) (f y)) keys then keys else (keys ++ k ∷ [])) → reverse (map f new) ≡ f k ∷ table
  key_added keys new k table t absent e =
      let known = key_among keys (f k) table t in let longer = map-append f keys (k ∷ []) in
      let turned = reverse-append (map f keys) (f k ∷ []) in grind arith
