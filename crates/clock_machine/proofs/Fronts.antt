-- Loops that go over a list with the place of each item.
use Rattle.std.proofs.Common.{◌≡◌, ℕ, ◌+◌, ◌<◌, ◌≤◌, List, [], ◌∷◌, ◌++◌, map, length, take, drop, get_or, refl, sym, ◌∙◌, ap, subst, arith}
use Rattle.std.proofs.Common.{⊎_elim, ◌⊎◌, inl, inr, Option, Bool, true, false, cond, zero-add}
use Rattle.std.proofs.{Math.ListN.set, lemmas.Bool.cases_lt, lemmas.List.Folds.list_any-append, lemmas.List.Folds.list_any_at}
use Rattle.std.proofs.lemmas.List.{take_more, take_all, take_at, map-append, length-map, get_or-set_other, get_or-set_same}
use Rattle.std.proofs.lemmas.List.{get_or_append_left, get_or_push}
use Rattle.std.proofs.lemmas.List.Elements.{filter-append, filter_map-append}
use Rattle.std.proofs.lemmas.List.FromFn.{length-enumerate_from, get_or-enumerate_from}
use Rattle.std.specs.List.{list_any, enumerate_from, filter, filter_map, range_with_len, refill}
use Rattle.flow_word.proofs.Ranges.{range_last}

-- one item more, with its place
pub numbered_more : {X : Type 0} (xs : List X) (i : ℕ) (d : X) → i < length xs
    → take (i + 1) (enumerate_from 0 xs) ≡ take i (enumerate_from 0 xs) ++ (i, get_or xs i d) ∷ []
numbered_more xs i d h =
    let within : i < length (enumerate_from 0 xs) = omega (arith, length-enumerate_from 0 xs) in
    take_more (enumerate_from 0 xs) i (0, d) within
    ∙ ap (λ m. take i (enumerate_from 0 xs) ++ m ∷ []) (rw zero-add at (get_or-enumerate_from 0 xs i (0, d) h))

pub numbered_all : {X : Type 0} (xs : List X) (i : ℕ) → length xs ≤ i → take i (enumerate_from 0 xs) ≡ enumerate_from 0 xs
numbered_all xs i h = take_all i (enumerate_from 0 xs) (omega (arith, length-enumerate_from 0 xs))

-- a list whose items were all written anew
pub refilled : {X : Type 0} (xs ws : List X) → length ws ≡ length xs → refill (length xs) xs ws ≡ ws
refilled xs ws h = take_at ws (drop (length ws) xs) (length xs) h

pub numbered_length : {X Y : Type 0} (f : ℕ × X → Y) (xs : List X) (ws : List Y) → ws ≡ map f (enumerate_from 0 xs) → length ws ≡ length xs
numbered_length f xs ws h = ap length h ∙ (length-map (enumerate_from 0 xs) f ∙ length-enumerate_from 0 xs)

pub below_or_at : (k i : ℕ) → k < i + 1 → (k < i) ⊎ (k ≡ i)
below_or_at k i l = ⊎_elim (λ h. inl h) (λ h. inr (omega arith)) (cases_lt k i)

-- a fact of each place so far, also where an item is added at the end
pub held_push : {X : Type 0} (P : ℕ → X → Type 0) (xs : List X) (i : ℕ) (y d : X) → length xs ≡ i → ((k : ℕ) → k < i → P k (get_or xs k d))
    → P i y
    → (k : ℕ) → k < i + 1 → P k (get_or (xs ++ y ∷ []) k d)
held_push P xs i y d count so now k l =
    ⊎_elim (λ below. subst (P k) (sym (get_or_append_left xs (y ∷ []) d k (omega arith))) (so k below))
    (λ same. subst (λ (n : ℕ). P n (get_or (xs ++ y ∷ []) n d)) (sym same) (subst (P i) (sym (get_or_push xs y d i count)) now))
    (below_or_at k i l)

-- a list of what some items give
pub kept_more : {X Y : Type 0} (f : ℕ × X → Option Y) (xs : List X) (i : ℕ) (d : X) (out next : List Y) → i < length xs
    → out ≡ filter_map f (take i (enumerate_from 0 xs)) → next ≡ out ++ filter_map f ((i, get_or xs i d) ∷ [])
    → next ≡ filter_map f (take (i + 1) (enumerate_from 0 xs))
kept_more f xs i d out next h so now =
    now ∙ (ap (λ l. l ++ filter_map f ((i, get_or xs i d) ∷ [])) so
    ∙ sym (ap (filter_map f) (numbered_more xs i d h) ∙ filter_map-append f (take i (enumerate_from 0 xs)) ((i, get_or xs i d) ∷ [])))

-- a list of what the numbers that pass give
pub passed_more : {Y : Type 0} (f g : ℕ → Y) (p : ℕ → Bool) (i : ℕ) (out next : List Y) → out ≡ map f (filter p (range_with_len 0 i))
    → next ≡ out ++ map g (filter p (i ∷ [])) → g i ≡ f i → next ≡ map f (filter p (range_with_len 0 (i + 1)))
passed_more f g p i out next so now same =
    now ∙ (ap (λ l. l ++ map g (filter p (i ∷ []))) so ∙ (ap (λ l. map f (filter p (range_with_len 0 i)) ++ l) (by_test (p i))
    ∙ sym (ap (λ (l : List ℕ). map f (filter p l)) (range_last i)
    ∙ (ap (map f) (filter-append p (range_with_len 0 i) (i ∷ [])) ∙ map-append f (filter p (range_with_len 0 i)) (filter p (i ∷ []))))))
  where
    by_test : (b : Bool) → map g (cond b (i ∷ []) []) ≡ map f (cond b (i ∷ []) [])
    by_test true = ap (λ y. y ∷ []) same
    by_test false = refl

-- a list that was written through a loan of its items
pub written_through : {X : Type 0} (f : ℕ × X → X) (xs lent ws : List X) → lent ≡ xs → ws ≡ map f (enumerate_from 0 lent)
    → refill (length xs) xs ws ≡ map f (enumerate_from 0 xs)
written_through {X} f xs lent ws e h =
    let now = h ∙ ap (λ (l : List X). map f (enumerate_from 0 l)) e in
    refilled xs ws (numbered_length f xs ws now) ∙ now

-- ---- the first item that passes a test

pub none_more : {X : Type 0} (f : ℕ × X → Bool) (xs : List X) (i : ℕ) (d : X) → i < length xs
    → list_any f (take i (enumerate_from 0 xs)) ≡ false
    → f (i, get_or xs i d) ≡ false → list_any f (take (i + 1) (enumerate_from 0 xs)) ≡ false
none_more f xs i d h before now =
    ap (list_any f) (numbered_more xs i d h)
    ∙ (list_any-append f (take i (enumerate_from 0 xs)) ((i, get_or xs i d) ∷ []) ∙ rw (before, now) refl)

pub some_at : {X : Type 0} (f : ℕ × X → Bool) (xs : List X) (i : ℕ) (d : X) → i < length xs → f (i, get_or xs i d) ≡ true
    → list_any f (enumerate_from 0 xs) ≡ true
some_at f xs i d h now =
    let within : i < length (enumerate_from 0 xs) = omega (arith, length-enumerate_from 0 xs) in
    let here : get_or (enumerate_from 0 xs) i (0, d) ≡ (i, get_or xs i d) = rw zero-add at (get_or-enumerate_from 0 xs i (0, d) h) in
    list_any_at f (enumerate_from 0 xs) i (0, d) within (ap f here ∙ now)

-- a fact of each place, also once one was written
pub all_known : {X : Type 0} (P : ℕ → X → Type 0) (xs : List X) (i n : ℕ) (y d : X) → i < length xs
    → ((k : ℕ) → k < n → P k (get_or xs k d)) → P i y → (k : ℕ) → k < n → P k (get_or (set xs i y) k d)
all_known P xs i n y d within all now k h = elim (cases_lt k i) [
  | inl below ↦ subst (P k) (sym (get_or-set_other xs i k y d (λ same. omega arith))) (all k h)
  | inr above ↦ elim (cases_lt i k) [
    | inl over ↦ subst (P k) (sym (get_or-set_other xs i k y d (λ same. omega arith))) (all k h)
    | inr under ↦
        let same : i ≡ k = omega arith in
        subst (λ (n : ℕ). P n (get_or (set xs i y) n d)) same (subst (P i) (sym (get_or-set_same xs i y d within)) now)
  ]
]
