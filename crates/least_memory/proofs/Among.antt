-- What stands in a list, and what is found there.
use Rattle.std.proofs.Common.{◌≡◌, ℕ, zero, suc, ◌<◌, ◌≤◌, ◌⊎◌, inl, inr, Bool, true, false, Some, List, [], ◌∷◌, ◌++◌, refl, sym, ◌∙◌, ap}
use Rattle.std.proofs.Common.{subst, arith}
use Rattle.std.proofs.lemmas.Bool.{cases_Bool, ltb-true, ltb-false}
use Rattle.std.specs.Prelude.{⊤, ◌&&◌, ◌||◌, not, nat_lt, find, map, flat_map}
use Rattle.std.specs.List.{list_any}
use Rattle.least_memory.specs.{IsEarlier, least_of}

-- ---- members

-- x stands in the list
abbrev pub Among : {X : Type 0} → List X → X → Type 0
Among [] x = ⊥
Among (y ∷ ys) x = (x ≡ y) ⊎ Among ys x

pub among_first : {X : Type 0} (xs ys : List X) (x : X) → Among xs x → Among (xs ++ ys) x
among_first [] ys x m = absurd m
among_first (y ∷ xs) ys x (inl e) = inl e
among_first (y ∷ xs) ys x (inr m) = inr (among_first xs ys x m)

pub among_last : {X : Type 0} (xs ys : List X) (x : X) → Among ys x → Among (xs ++ ys) x
among_last [] ys x m = m
among_last (y ∷ xs) ys x m = inr (among_last xs ys x m)

pub among_append : {X : Type 0} (xs ys : List X) (x : X) → Among (xs ++ ys) x → Among xs x ⊎ Among ys x
among_append [] ys x m = inr m
among_append (y ∷ xs) ys x (inl e) = inl (inl e)
among_append (y ∷ xs) ys x (inr m) = elim (among_append xs ys x m) [ inl a ↦ inl (inr a) | inr b ↦ inr b ]

pub among_map : {X Y : Type 0} (f : X → Y) (xs : List X) (x : X) → Among xs x → Among (map f xs) (f x)
among_map f [] x m = absurd m
among_map f (y ∷ xs) x (inl e) = inl (ap f e)
among_map f (y ∷ xs) x (inr m) = inr (among_map f xs x m)

pub mapped_among : {X Y : Type 0} (f : X → Y) (xs : List X) (y : Y) → Among (map f xs) y → (x : X) × Among xs x × (y ≡ f x)
mapped_among f [] y m = absurd m
mapped_among f (x ∷ xs) y (inl e) = (x, inl refl, e)
mapped_among f (x ∷ xs) y (inr m) = let (z, a, e) = mapped_among f xs y m in (z, inr a, e)

pub among_flat_map : {X Y : Type 0} (f : X → List Y) (xs : List X) (x : X) (y : Y) → Among xs x → Among (f x) y → Among (flat_map f xs) y
among_flat_map f [] x y m k = absurd m
among_flat_map {X} {Y} f (z ∷ xs) x y (inl e) k = among_first (f z) (flat_map f xs) y (subst (λ (w : X). Among (f w) y) e k)
among_flat_map f (z ∷ xs) x y (inr m) k = among_last (f z) (flat_map f xs) y (among_flat_map f xs x y m k)

pub flat_mapped_among : {X Y : Type 0} (f : X → List Y) (xs : List X) (y : Y) → Among (flat_map f xs) y
    → (x : X) × Among xs x × Among (f x) y
flat_mapped_among f [] y m = absurd m
flat_mapped_among f (x ∷ xs) y m = elim (among_append (f x) (flat_map f xs) y m) [
  | inl a ↦ (x, inl refl, a)
  | inr b ↦ let (z, k, c) = flat_mapped_among f xs y b in (z, inr k, c)
]

-- ---- tests

-- some member passes
pub any_among : {X : Type 0} (p : X → Bool) (xs : List X) → list_any p xs ≡ true → (x : X) × Among xs x × (p x ≡ true)
any_among p [] e = absurd (cc)
any_among p (x ∷ xs) e = elim (cases_Bool (p x)) [
  | inl t ↦ (x, inl refl, t)
  | inr t ↦ let (y, m, u) = any_among p xs (let same : (p x || list_any p xs) ≡ list_any p xs = rw t refl in sym same ∙ e) in (y, inr m, u)
]

pub none_among : {X : Type 0} (p : X → Bool) (xs : List X) → list_any p xs ≡ false → (x : X) → Among xs x → p x ≡ false
none_among p [] e x m = absurd m
none_among {X} p (y ∷ xs) e x m = elim (cases_Bool (p y)) [
  | inl t ↦ let same : (p y || list_any p xs) ≡ true = rw t refl in absurd (cc)
  | inr t ↦
      let rest : list_any p xs ≡ false = let same : (p y || list_any p xs) ≡ list_any p xs = rw t refl in sym same ∙ e in
      elim m as (λ _. p x ≡ false) [
        | inl is ↦ subst (λ (z : X). p z ≡ false) (sym is) t
        | inr k ↦ none_among p xs rest x k
      ]
]

-- ---- the first that passes

-- each list is earlier than those after it
abbrev pub Rises : List (List ℕ) → Type 0
Rises [] = ⊤
Rises (x ∷ xs) = ((y : List ℕ) → Among xs y → IsEarlier x y) × Rises xs

-- what is found passes, and what passes too is the same or later
pub record IsFirst (p : List ℕ → Bool) (xs : List (List ℕ)) (found : List ℕ) : Type 0 where
  pub among : Among xs found
  pub passes : p found ≡ true
  pub first : (x : List ℕ) → Among xs x → p x ≡ true → (found ≡ x) ⊎ IsEarlier found x

pub first_found : (p : List ℕ → Bool) (xs : List (List ℕ)) → Rises xs → (x : List ℕ) → Among xs x → p x ≡ true
    → (found : List ℕ) × (find p xs ≡ Some found) × IsFirst p xs found
first_found p [] r x m t = absurd m
first_found p (y ∷ xs) r x m t = elim (cases_Bool (p y)) [
  | inl u ↦ (
    y,
    rw u refl,
    record {
      among = inl refl;
      passes = u;
      first = λ z k v. elim k [ inl e ↦ inl (sym e) | inr later ↦ inr (r.0 z later) ];
    },
  )
  | inr u ↦
      let after : (z : List ℕ) → Among (y ∷ xs) z → p z ≡ true → Among xs z = λ z k v. elim k [
        | inl e ↦ let same = ap p e in absurd (cc)
        | inr later ↦ later
      ] in
      let (found, is, it) = first_found p xs r.1 x (after x m t) t in (
        found,
        rw u is,
        record {
          among = inr it.among;
          passes = it.passes;
          first = λ z k v. it.first z (after z k v) v;
        },
      )
]

-- ---- the least

module _ (test : List ℕ → Bool) (bits : List ℕ → ℕ) (all : List (List ℕ)) where
  abbrev beaten : List ℕ → Bool
  beaten ds = list_any (λ es. test es && nat_lt (bits es) (bits ds)) all

  -- it test, and no other that test has fewer bits
  pub record IsLeast (ds : List ℕ) : Type 0 where
    pub among : Among all ds
    pub passes : test ds ≡ true
    pub fewest : (es : List ℕ) → Among all es → test es ≡ true → bits ds ≤ bits es

  both : (a b : Bool) → (a && b) ≡ true → (a ≡ true) × (b ≡ true)
  both true b e = (refl, e)
  both false b e = absurd (cc)

  least_test : (ds : List ℕ) → IsLeast ds → (test ds && not (beaten ds)) ≡ true
  least_test ds h = elim (cases_Bool (beaten ds)) [
    | inl t ↦
        let (es, m, u) = any_among (λ es. test es && nat_lt (bits es) (bits ds)) all t in
        let (its, fewer) = both (test es) (nat_lt (bits es) (bits ds)) u in
        let least = h.fewest es m its in
        absurd (omega (arith, ltb-true (bits es) (bits ds) fewer))
    | inr t ↦ rw h.passes (rw t refl)
  ]

  not_false : (b : Bool) → not b ≡ true → b ≡ false
  not_false true e = absurd (cc)
  not_false false e = refl

  tested_least : (ds : List ℕ) → Among all ds → (test ds && not (beaten ds)) ≡ true → IsLeast ds
  tested_least ds m t =
      let (its, unbeaten) = both (test ds) (not (beaten ds)) t in
      record {
        among = m;
        passes = its;
        fewest = λ es k u. elim (cases_Bool (nat_lt (bits es) (bits ds))) [
          | inl fewer ↦
              let none = none_among (λ fs. test fs && nat_lt (bits fs) (bits ds)) all (not_false (beaten ds) unbeaten) es k in
              let some : (test es && nat_lt (bits es) (bits ds)) ≡ true = rw u fewer in
              absurd (cc)
          | inr more ↦ ltb-false (bits es) (bits ds) more
        ];
      }

  -- one that test has one with the fewest bits beside it
  some_least : (n : ℕ) (ds : List ℕ) → bits ds < n → Among all ds → test ds ≡ true → (es : List ℕ) × IsLeast es
  some_least zero ds l m t = absurd (omega arith)
  some_least (suc n) ds l m t = elim (cases_Bool (beaten ds)) [
    | inl fewer ↦
        let (es, k, u) = any_among (λ es. test es && nat_lt (bits es) (bits ds)) all fewer in
        let (its, less) = both (test es) (nat_lt (bits es) (bits ds)) u in
        let below = ltb-true (bits es) (bits ds) less in
        some_least n es (omega arith) k its
    | inr unbeaten ↦ (ds, tested_least ds m (rw t (rw unbeaten refl)))
  ]

  -- the first of those with the fewest bits
  pub least_found : Rises all → (ds : List ℕ) → Among all ds → test ds ≡ true
      → (found : List ℕ) × (least_of test bits all ≡ Some found) × IsLeast found
      × ((es : List ℕ) → IsLeast es → (found ≡ es) ⊎ IsEarlier found es)
  unfolding least_of
  least_found r ds m t =
      let (es, least) = some_least (suc (bits ds)) ds (omega arith) m t in
      let (found, is, it) = first_found (λ xs. test xs && not (beaten xs)) all r es least.among (least_test es least) in
      (found, is, tested_least found it.among it.passes, λ fs h. it.first fs h.among (least_test fs h))
