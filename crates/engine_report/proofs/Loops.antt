-- Loops over the numbers of modules, of channels and of steps.
use Rattle.std.proofs.Common.{◌≡◌, refl, sym, ℕ, zero, suc, ◌+◌, ◌<◌, Bool, true, false, List, [], ◌∷◌, ◌++◌, map, zero-add, take, drop}
use Rattle.std.proofs.Common.{cond, append_assoc, length, get_or, arith, Option, None, Some, append-nil}
use Rattle.std.proofs.lemmas.List.{map-append, take_more, drop_more}
use Rattle.std.proofs.{lemmas.List.Folds.find-append, lemmas.List.Concat.flat_map-append, lemmas.List.Sums.take_while-cons}
use Rattle.std.proofs.lemmas.List.Elements.{filter-append, filter_map-append, All-append}
use Rattle.std.proofs.lemmas.List.FromFn.{map-range_with_len_more, length-map-range_with_len, get_or-map-range_with_len}
use Rattle.std.specs.{Prelude.All, List.range_with_len, List.filter, List.filter_map, List.flat_map, List.find, List.take_while}
use Rattle.flow_word.proofs.Ranges.{range_last}

-- a number more
pub mapped_more : {Y : Type 0} (f : ℕ → Y) (i : ℕ) → map f (range_with_len 0 (i + 1)) ≡ map f (range_with_len 0 i) ++ f i ∷ []
mapped_more f i = map-range_with_len_more f 0 i i (zero-add i)

-- after others
pub added_more : {Y : Type 0} (f : ℕ → Y) (i : ℕ) (before : List Y)
    → before ++ map f (range_with_len 0 (i + 1)) ≡ (before ++ map f (range_with_len 0 i)) ++ f i ∷ []
added_more f i before = rw (mapped_more f i) (sym (append_assoc before (map f (range_with_len 0 i)) (f i ∷ [])))

-- a number more, if it passes a test
pub passed_more : {Y : Type 0} (f : ℕ → Y) (p : ℕ → Bool) (i : ℕ)
    → map f (filter p (range_with_len 0 (i + 1))) ≡ map f (filter p (range_with_len 0 i)) ++ map f (filter p (i ∷ []))
passed_more f p i = rw (range_last i, filter-append p (range_with_len 0 i) (i ∷ [])) (map-append f (filter p (range_with_len 0 i)) _)

-- what a number more gives
pub given_more : {Y : Type 0} (f : ℕ → List Y) (i : ℕ) → flat_map f (range_with_len 0 (i + 1)) ≡ flat_map f (range_with_len 0 i) ++ f i
given_more f i = rw (range_last i, flat_map-append f (range_with_len 0 i) (i ∷ []), append-nil (f i)) refl

-- and what it gives if it gives something
pub found_more : {Y : Type 0} (f : ℕ → Option Y) (i : ℕ)
    → filter_map f (range_with_len 0 (i + 1)) ≡ filter_map f (range_with_len 0 i) ++ filter_map f (i ∷ [])
found_more f i = rw (range_last i) (filter_map-append f (range_with_len 0 i) (i ∷ []))

-- what holds of what each number gives
pub all_mapped : {X : Type 0} (P : X → Type 0) (f : ℕ → X) (n : ℕ) → ((i : ℕ) → i < n → P (f i)) → All P (map f (range_with_len 0 n))
all_mapped P f n each = λ i d l.
    let less : i < n = omega (arith, length-map-range_with_len f 0 n) in
    rw (get_or-map-range_with_len f 0 n i i d less (zero-add i)) (each i less)

pub all_given : {X : Type 0} (P : X → Type 0) (f : ℕ → List X) (a n : ℕ) → ((i : ℕ) → i < a + n → All P (f i))
    → All P (flat_map f (range_with_len a n))
all_given P f a zero each = λ i d l. absurd (omega arith)
all_given P f a (suc n) each =
    All-append P (f a) (flat_map f (range_with_len (a + 1) n)) (each a (omega arith))
    (all_given P f (a + 1) n (λ i l. each i (omega arith)))

-- the first that passes a test
pub first_found : {X : Type 0} (p : X → Bool) (xs : List X) (i : ℕ) (d : X) → i < length xs → find p (take i xs) ≡ None
    → p (get_or xs i d) ≡ true → find p xs ≡ Some (get_or xs i d)
first_found p [] i d l none here = absurd (omega arith)
first_found p (x ∷ xs) zero d l none here = rw here refl
first_found p (x ∷ xs) (suc i) d l none here = let later = first_found p xs i d (omega arith) in grind arith

pub none_found : {X : Type 0} (p : X → Bool) (xs : List X) (i : ℕ) (d : X) → i < length xs → find p (take i xs) ≡ None
    → p (get_or xs i d) ≡ false → find p (take (i + 1) xs) ≡ None
none_found p xs i d l none here = rw (take_more xs i d l, find-append p (take i xs) (get_or xs i d ∷ []), none, here) refl

-- a prefix of a list
pub front_more : {X : Type 0} (p : X → Bool) (xs : List X) (i : ℕ) (d : X) → i < length xs
    → take_while p (drop i xs) ≡ cond (p (get_or xs i d)) (get_or xs i d ∷ take_while p (drop (i + 1) xs)) []
front_more p xs i d l = rw (drop_more xs i d l) (take_while-cons p (get_or xs i d) (drop (i + 1) xs))
