-- The first item of a list that passes a test.
use Rattle.std.proofs.Common.{◌≡◌, refl, sym, ap, subst, ◌∙◌, ℕ, zero, suc, ◌+◌, ◌<◌, inl, inr, Bool, true, false, cond, List, [], ◌∷◌}
use Rattle.std.proofs.Common.{length, map, get_or, Option, None, Some, arith}
use Rattle.std.proofs.{lemmas.Bool.cases_eq, lemmas.Bool.Decides.nat_tests, lemmas.List.Elements.All-head, lemmas.List.Elements.All-tail}
use Rattle.std.proofs.lemmas.List.FromFn.{length-range_with_len, get_or-range_with_len}
use Rattle.std.specs.{Prelude.All, Prelude.position, Prelude.option_map, List.range_with_len}
use Rattle.time_engine.proofs.First.{position_found, position_none}

-- ---- the first that passes

pub position_more : {X : Type 0} (p : X → Bool) (x : X) (xs : List X)
    → position p (x ∷ xs) ≡ cond (p x) (Some 0) (option_map suc (position p xs))
position_more p x xs = grind (arith, nat_tests)

-- ---- the place of the first that passes, after so many that fail

pub passed_none : {X : Type 0} (p : X → Bool) (xs : List X) → position p xs ≡ option_map (λ k. k + 0) (position p xs)
passed_none p xs = by (position p xs)
  where
    by : (o : Option ℕ) → o ≡ option_map (λ k. k + 0) o
    by None = refl
    by (Some k) = grind arith

pub passed_here : {X : Type 0} (p : X → Bool) (x : X) (xs : List X) (n : ℕ) → p x ≡ true
    → option_map (λ k. k + n) (position p (x ∷ xs)) ≡ Some n
passed_here p x xs n is = grind (arith, position_more p x xs)

pub passed_more : {X : Type 0} (p : X → Bool) (x : X) (xs : List X) (n : ℕ) → p x ≡ false
    → option_map (λ k. k + n) (position p (x ∷ xs)) ≡ option_map (λ k. k + (n + 1)) (position p xs)
passed_more p x xs n not = by (position p xs) (position_more p x xs)
  where
    by : (o : Option ℕ) → position p (x ∷ xs) ≡ cond (p x) (Some 0) (option_map suc o)
        → option_map (λ k. k + n) (position p (x ∷ xs)) ≡ option_map (λ k. k + (n + 1)) o
    by None is = grind arith
    by (Some k) is = grind arith

-- ---- the same tests of other items

pub position_seen : {X Y : Type 0} (p : Y → Bool) (q : X → Bool) (f : X → Y) (xs : List X) → All (λ (x : X). p (f x) ≡ q x) xs
    → position p (map f xs) ≡ position q xs
position_seen {X} {Y} p q f [] all = refl
position_seen {X} {Y} p q f (x ∷ xs) all =
    let head = All-head (λ (y : X). p (f y) ≡ q y) x xs all in
    let rest = position_seen p q f xs (All-tail (λ (y : X). p (f y) ≡ q y) x xs all) in
    grind (arith, position_more p (f x) (map f xs), position_more q x xs)

pub nothing_passes : {X : Type 0} (p : X → Bool) (xs : List X) → All (λ (x : X). p x ≡ false) xs → position p xs ≡ None
nothing_passes {X} p xs all = position_none p xs (length xs) refl (λ k e l. all k e l)

-- none passes the head, and none the rest
pub head_fails : {X : Type 0} (p : X → Bool) (x : X) (xs : List X) → position p (x ∷ xs) ≡ None → p x ≡ false
head_fails p x xs e = grind (arith, position_more p x xs)

pub tail_fails : {X : Type 0} (p : X → Bool) (x : X) (xs : List X) → position p (x ∷ xs) ≡ None → position p xs ≡ None
tail_fails p x xs e = grind (arith, position_more p x xs)

-- ---- the first module that passes

-- none passes below the next one
pub none_more : (test : ℕ → Bool) (n : ℕ) → ((k : ℕ) → k < n → test k ≡ false) → test n ≡ false → (k : ℕ) → k < n + 1 → test k ≡ false
none_more test n none here k l =
    elim (cases_eq k n) [ inl same ↦ subst (λ (i : ℕ). test i ≡ false) (sym same) here | inr other ↦ none k (omega arith) ]

range_at : (n k e : ℕ) → k < n → get_or (range_with_len 0 n) k e ≡ k
range_at n k e l =
    let at = get_or-range_with_len 0 n k e l in
    let sum : 0 + k ≡ k = omega arith in
    at ∙ sum

pub module_found : (test : ℕ → Bool) (n m : ℕ) → m < n → ((k : ℕ) → k < m → test k ≡ false) → test m ≡ true
    → position test (range_with_len 0 n) ≡ Some m
module_found test n m l before here =
    let long = length-range_with_len 0 n in
    position_found test (range_with_len 0 n) m 0 (omega arith)
    (λ k e q. ap test (range_at n k e (omega arith)) ∙ before k q) (ap test (range_at n m 0 l) ∙ here)

pub no_module_found : (test : ℕ → Bool) (n : ℕ) → ((k : ℕ) → k < n → test k ≡ false) → position test (range_with_len 0 n) ≡ None
no_module_found test n none =
    position_none test (range_with_len 0 n) n (sym (length-range_with_len 0 n)) (λ k e q. ap test (range_at n k e q) ∙ none k q)

pub no_module_passes : (test : ℕ → Bool) (n : ℕ) → position test (range_with_len 0 n) ≡ None → (k : ℕ) → k < n → test k ≡ false
no_module_passes test n e k l =
    sym (ap test (range_at n k 0 l)) ∙ each (range_with_len 0 n) e k (let long = length-range_with_len 0 n in omega arith)
  where
    each : (xs : List ℕ) → position test xs ≡ None → (k : ℕ) → k < length xs → test (get_or xs k 0) ≡ false
    each [] e k l = absurd (omega arith)
    each (x ∷ xs) e zero l = head_fails test x xs e
    each (x ∷ xs) e (suc k) l = each xs (tail_fails test x xs e) k (omega arith)
