-- The words of a set.
use Rattle.std.proofs.Common.{◌≡◌, ◌≢◌, refl, sym, ap, ◌∙◌, ℕ, suc, ◌+◌, ◌-◌, ◌*◌, ◌/◌, ◌%◌, ◌^◌, ◌<◌, ◌≤◌, ◌⊎◌, inl, inr, arith, List, []}
use Rattle.std.proofs.Common.{◌∷◌, ◌++◌, length, get_or, set, replicate, take, length-set}
use Rattle.std.proofs.{Math.ListN.get_or-eq_default, Math.Seq.take-suc, lemmas.Bool.cases_lt, lemmas.Bool.cases_eq}
use Rattle.std.proofs.{lemmas.Grind.get_or_default_zero, lemmas.Nat.Bits.bit_at-zero, lemmas.Nat.Bits.bit_at_ones}
use Rattle.std.proofs.lemmas.List.{get_or-set_same, get_or-set_other, get_or-replicate, length-replicate}
use Rattle.std.specs.{Prelude.bit_or, Prelude.bit_and, Int.bit_at, Int.bit_not, Int.w64}
use Rattle.module_sets.specs.{Mask, IsSet, IsFirstBit, Has, IsIn, HasMask, IsAdded, IsJoined, IsRemoved, IsFirstFrom, capacity}
use Rattle.module_sets.proofs.Bits.{own_set, set_own, or_set, set_or, without_set, set_without}

-- ---- a module's place

same_place : (n m : ℕ) → m / 64 ≡ n / 64 → n % 64 ≡ m % 64 → n ≡ m
same_place n m w b = omega arith

word_of : (word bit : ℕ) → bit < 64 → (64 * word + bit) / 64 ≡ word
word_of word bit l = omega arith

bit_of : (word bit : ℕ) → bit < 64 → (64 * word + bit) % 64 ≡ bit
bit_of word bit l = omega arith

-- ---- what is in a set

pub has : (words : List ℕ) (n : ℕ) → IsSet (get_or words (n / 64) 0) (n % 64) → Has words n
unfolding Has
has words n h = h

pub bit_in : (words : List ℕ) (n : ℕ) → Has words n → IsSet (get_or words (n / 64) 0) (n % 64)
unfolding Has
bit_in words n h = h

-- the bit of a word
pub has_at : (words : List ℕ) (word bit : ℕ) → bit < 64 → IsSet (get_or words word 0) bit → Has words (64 * word + bit)
has_at words word bit l h =
    has words (64 * word + bit) (rw (word_of word bit l, bit_of word bit l) h)

-- no word, no module
pub none_beyond : (words : List ℕ) (n : ℕ) → length words ≤ n / 64 → Has words n → ⊥
none_beyond words n l h =
    let e : bit_at (get_or words (n / 64) 0) (n % 64) ≡ 0 =
    ap (λ w. bit_at w (n % 64)) (get_or-eq_default words 0 l) ∙ bit_at-zero (n % 64) in
    let g = bit_in words n h in
    absurd (omega (arith, e, g))

pub inside : (words : List ℕ) (n : ℕ) → Has words n → n < capacity words
inside words n h = elim (cases_lt (n / 64) (length words)) [
  | inl l ↦ omega arith
  | inr l ↦ absurd (none_beyond words n l h)
]

le_of_eq_le : {a b c : ℕ} → a ≡ b → b ≤ c → a ≤ c
le_of_eq_le {a} {b} {c} e l = omega arith

-- zeros have none, and ones have all
pub none_in : (count n : ℕ) → Has (replicate count 0) n → ⊥
none_in count n h = elim (cases_lt (n / 64) count) [
  | inl l ↦
      let e : bit_at (get_or (replicate count 0) (n / 64) 0) (n % 64) ≡ 0 =
      ap (λ w. bit_at w (n % 64)) (get_or-replicate count (n / 64) 0 0 l) ∙ bit_at-zero (n % 64) in
      let g = bit_in (replicate count 0) n h in
      absurd (omega (arith, e, g))
  | inr l ↦ none_beyond (replicate count 0) n (le_of_eq_le (length-replicate count 0) l) h
]

pub all_in : (count n : ℕ) → n < 64 * count → Has (replicate count (2 ^ 64 - 1)) n
all_in count n l =
    has (replicate count (2 ^ 64 - 1)) n
    (ap (λ w. bit_at w (n % 64)) (get_or-replicate count (n / 64) (2 ^ 64 - 1) 0 (omega arith)) ∙ bit_at_ones 64 (n % 64) (omega arith))

-- a word as it is read
pub read : (words : List ℕ) (at word : ℕ) → at < length words → word ≡ get_or words at word → word ≡ get_or words at 0
read words at word l e = e ∙ get_or_default_zero words at word l

-- ---- a word that changes

module _ (words : List ℕ) (word now : ℕ) (l : word < length words) where
  there : (n : ℕ) → n / 64 ≡ word → get_or (set words word now) (n / 64) 0 ≡ now
  there n e = ap (λ (k : ℕ). get_or (set words word now) k 0) e ∙ get_or-set_same words word now 0 l

  elsewhere : (n : ℕ) → n / 64 ≢ word → get_or (set words word now) (n / 64) 0 ≡ get_or words (n / 64) 0
  elsewhere n e = get_or-set_other words word (n / 64) now 0 e

  pub has_there : (n : ℕ) → n / 64 ≡ word → IsSet now (n % 64) → Has (set words word now) n
  has_there n e h = has (set words word now) n (rw (there n e) h)

  pub there_has : (n : ℕ) → n / 64 ≡ word → Has (set words word now) n → IsSet now (n % 64)
  there_has n e h = rw (there n e) at (bit_in (set words word now) n h)

  pub has_elsewhere : (n : ℕ) → n / 64 ≢ word → Has words n → Has (set words word now) n
  has_elsewhere n e h = has (set words word now) n (rw (elsewhere n e) (bit_in words n h))

  pub elsewhere_has : (n : ℕ) → n / 64 ≢ word → Has (set words word now) n → Has words n
  elsewhere_has n e h = has words n (rw (elsewhere n e) at (bit_in (set words word now) n h))

-- a mask more
pub joined : (words : List ℕ) (mask : Mask) → mask.word < length words
    → IsJoined words (mask ∷ []) (set words mask.word (bit_or (get_or words mask.word 0) mask.bits))
joined words mask l = record { room = length-set words mask.word _; has = λ n. (new n, old n) }
  where
    now : ℕ
    now = bit_or (get_or words mask.word 0) mask.bits

    new : (n : ℕ) → Has (set words mask.word now) n → Has words n ⊎ (HasMask (mask ∷ []) n × (n < capacity words))
    new n h = elim (cases_eq (n / 64) mask.word) [
      | inl e ↦ elim (set_or (get_or words mask.word 0) mask.bits (n % 64) (there_has words mask.word now l n e h)) [
        | inl before ↦ inl (has words n (rw e before))
        | inr more ↦ inr (inl (sym e, more), (omega arith))
      ]
      | inr other ↦ inl (elsewhere_has words mask.word now l n other h)
    ]

    old : (n : ℕ) → Has words n ⊎ (HasMask (mask ∷ []) n × (n < capacity words)) → Has (set words mask.word now) n
    old n (inr (inl (e, more), u)) =
        has_there words mask.word now l n (sym e) (or_set (get_or words mask.word 0) mask.bits (n % 64) (inr more))
    old n (inr (inr none, u)) = elim none [ ]
    old n (inl h) = elim (cases_eq (n / 64) mask.word) [
      | inl e ↦ has_there words mask.word now l n e
          (or_set (get_or words mask.word 0) mask.bits (n % 64) (inl (rw e at (bit_in words n h))))
      | inr other ↦ has_elsewhere words mask.word now l n other h
    ]

-- where there is no room for it
pub no_room : (words : List ℕ) (mask : Mask) → length words ≤ mask.word → IsJoined words (mask ∷ []) words
no_room words mask l = record {
  room = refl;
  has = λ n. (
    λ h. inl h,
    λ h. elim h [
      | inl before ↦ before
      | inr (inl (e, more), u) ↦ absurd (omega arith)
      | inr (inr none, u) ↦ elim none [ ]
    ],
  );
}

-- a module more is a mask of one bit more
pub added : (old new : List ℕ) (m bits : ℕ) → bits ≡ 2 ^ (m % 64) → IsJoined old (record { word = m / 64; bits = bits } ∷ []) new
    → IsAdded old m new
added old new m bits e j = record {
  room = j.room;
  has = λ n. (
    λ h. elim ((j.has n).0 h) [
      | inl before ↦ inl before
      | inr (inl (w, b), l) ↦ inr (same_place n m w (set_own (m % 64) (n % 64) (rw e at b)), l)
      | inr (inr none, l) ↦ elim none [ ]
    ],
    λ h. elim h [
      | inl before ↦ (j.has n).1 (inl before)
      | inr (same, l) ↦ (j.has n).1 (inr (inl (omega arith, rw e (own_set (m % 64) (n % 64) (omega arith))), l))
    ],
  );
}

-- a module less
pub removed : (words : List ℕ) (m bits : ℕ) → bits ≡ 2 ^ (m % 64) → m / 64 < length words
    → IsRemoved words m (set words (m / 64) (bit_and (get_or words (m / 64) 0) (bit_not w64 bits)))
removed words m bits e l = record { room = length-set words (m / 64) _; has = λ n. (new n, old n) }
  where
    now : ℕ
    now = bit_and (get_or words (m / 64) 0) (bit_not w64 bits)

    same : now ≡ bit_and (get_or words (m / 64) 0) (bit_not w64 (2 ^ (m % 64)))
    same = ap (λ b. bit_and (get_or words (m / 64) 0) (bit_not w64 b)) e

    new : (n : ℕ) → Has (set words (m / 64) now) n → Has words n × (n ≢ m)
    new n h = elim (cases_eq (n / 64) (m / 64)) [
      | inl at ↦
          let (before, other) = set_without (get_or words (m / 64) 0) (m % 64) (n % 64) (omega arith) (omega arith)
          (rw same at (there_has words (m / 64) now l n at h)) in
          (has words n (rw at before), λ is. other (omega arith))
      | inr other ↦ (elsewhere_has words (m / 64) now l n other h, λ is. other (omega arith))
    ]

    old : (n : ℕ) → Has words n × (n ≢ m) → Has (set words (m / 64) now) n
    old n (h, differ) = elim (cases_eq (n / 64) (m / 64)) [
      | inl at ↦ has_there words (m / 64) now l n at (rw same (without_set (get_or words (m / 64) 0) (m % 64) (n % 64)
          (omega arith) (omega arith) (rw at at (bit_in words n h), λ is. differ (same_place n m (sym at) is))))
      | inr other ↦ has_elsewhere words (m / 64) now l n other h
    ]

pub not_there : (words : List ℕ) (m : ℕ) → length words ≤ m / 64 → IsRemoved words m words
not_there words m l = record {
  room = refl;
  has = λ n. (λ h. (h, λ is. none_beyond words n (omega arith) h), λ h. h.0);
}

-- ---- masks

-- one mask more at the end
pub mask_in : (masks : List Mask) (mask : Mask) (n : ℕ) → HasMask masks n ⊎ IsIn mask n → HasMask (masks ++ mask ∷ []) n
mask_in [] mask n (inl none) = elim none [ ]
mask_in [] mask n (inr h) = inl h
mask_in (first ∷ rest) mask n (inl (inl h)) = inl h
mask_in (first ∷ rest) mask n (inl (inr h)) = inr (mask_in rest mask n (inl h))
mask_in (first ∷ rest) mask n (inr h) = inr (mask_in rest mask n (inr h))

pub in_masks : (masks : List Mask) (mask : Mask) (n : ℕ) → HasMask (masks ++ mask ∷ []) n → HasMask masks n ⊎ IsIn mask n
in_masks [] mask n (inl h) = inr h
in_masks [] mask n (inr none) = elim none [ ]
in_masks (first ∷ rest) mask n (inl h) = inl (inl h)
in_masks (first ∷ rest) mask n (inr h) = elim (in_masks rest mask n h) [
  | inl before ↦ inl (inr before)
  | inr last ↦ inr last
]

-- and one more
pub joined_more : (first before now : List ℕ) (masks : List Mask) (at : ℕ) (d : Mask) → at < length masks
    → IsJoined first (take at masks) before → IsJoined before (get_or masks at d ∷ []) now → IsJoined first (take (at + 1) masks) now
joined_more first before now masks at d l a b = record { room = b.room ∙ a.room; has = λ n. (new n, old n) }
  where
    mask : Mask
    mask = get_or masks at d

    taken : take (at + 1) masks ≡ take at masks ++ mask ∷ []
    taken = let e : at + 1 ≡ suc at = omega arith in ap (λ (k : ℕ). take k masks) e ∙ take-suc masks at d l

    new : (n : ℕ) → Has now n → Has first n ⊎ (HasMask (take (at + 1) masks) n × (n < capacity first))
    new n h = elim ((b.has n).0 h) [
      | inl there ↦ elim ((a.has n).0 there) [
        | inl old ↦ inl old
        | inr (of, u) ↦ inr (rw taken (mask_in (take at masks) mask n (inl of)), u)
      ]
      | inr (inl one, u) ↦ let e = a.room in inr (rw taken (mask_in (take at masks) mask n (inr one)), (omega arith))
      | inr (inr none, u) ↦ elim none [ ]
    ]

    old : (n : ℕ) → Has first n ⊎ (HasMask (take (at + 1) masks) n × (n < capacity first)) → Has now n
    old n (inl h) = (b.has n).1 (inl ((a.has n).1 (inl h)))
    old n (inr (h, u)) = elim (in_masks (take at masks) mask n (rw taken at h)) [
      | inl of ↦ (b.has n).1 (inl ((a.has n).1 (inr (of, u))))
      | inr one ↦ let e = a.room in (b.has n).1 (inr (inl one, (omega arith)))
    ]

-- the masks of a set's first so many words
pub record AreMasks (words : List ℕ) (many : ℕ) (masks : List Mask) : Type 0 where
  pub new : (n : ℕ) → HasMask masks n → Has words n
  pub old : (n : ℕ) → n / 64 < many → Has words n → HasMask masks n

pub masks_more : (words : List ℕ) (many : ℕ) (masks : List Mask) (mask : Mask) → AreMasks words many masks → mask.word ≡ many
    → mask.bits ≡ get_or words many 0 → AreMasks words (many + 1) (masks ++ mask ∷ [])
masks_more words many masks mask are w b = record {
  new = λ n h. elim (in_masks masks mask n h) [
    | inl before ↦ are.new n before
    | inr (at, is) ↦ has words n (let e : n / 64 ≡ many = omega arith in rw e (rw b at is))
  ];
  old = λ n l h. mask_in masks mask n (elim (cases_lt (n / 64) many) [
    | inl u ↦ inl (are.old n u h)
    | inr u ↦ let e : n / 64 ≡ many = omega arith in inr (w ∙ sym e, rw b (rw e at (bit_in words n h)))
  ]);
}

-- an empty word has none
pub masks_empty : (words : List ℕ) (many : ℕ) (masks : List Mask) → AreMasks words many masks → get_or words many 0 ≡ 0
    → AreMasks words (many + 1) masks
masks_empty words many masks are e = record {
  new = are.new;
  old = λ n l h. elim (cases_lt (n / 64) many) [
    | inl u ↦ are.old n u h
    | inr u ↦
        let same : n / 64 ≡ many = omega arith in
        let none : bit_at (get_or words (n / 64) 0) (n % 64) ≡ 0 =
        ap (λ k. bit_at (get_or words k 0) (n % 64)) same ∙ (ap (λ w. bit_at w (n % 64)) e ∙ bit_at-zero (n % 64)) in
        let g = bit_in words n h in
        absurd (omega (arith, none, g))
  ];
}

-- ---- the first one from somewhere on

-- the first bit of a word is the first module, where there is none before the word
pub first_is : (words : List ℕ) (from word low bit : ℕ) → IsFirstBit (get_or words word 0) low bit → bit < 64
    → ((n : ℕ) → from ≤ n → n < 64 * word + low → Has words n → ⊥) → from ≤ 64 * word + bit → IsFirstFrom words from (64 * word + bit)
first_is words from word low bit first u none l = record {
  after = l;
  has = has_at words word bit u first.is_set;
  first = λ n v w h. elim (cases_lt n (64 * word + low)) [
    | inl before ↦ none n v before h
    | inr after ↦
        let e : n / 64 ≡ word = omega arith in
        first.first (n % 64) (omega arith) (omega arith) (rw e at (bit_in words n h))
  ];
}

-- no bit of a word, no module of it
pub none_is : (words : List ℕ) (word low : ℕ) → ((bit : ℕ) → low ≤ bit → IsSet (get_or words word 0) bit → ⊥) → (n : ℕ)
    → 64 * word + low ≤ n → n < 64 * (word + 1) → Has words n → ⊥
none_is words word low none n l u h =
    let e : n / 64 ≡ word = omega arith in
    none (n % 64) (omega arith) (rw e at (bit_in words n h))

-- the first one from somewhere on, where there is none before
pub first_earlier : (words : List ℕ) (from to m : ℕ) → ((n : ℕ) → from ≤ n → n < to → Has words n → ⊥) → from ≤ to
    → IsFirstFrom words to m → IsFirstFrom words from m
first_earlier words from to m none l first = record {
  after = let b = first.after in omega arith;
  has = first.has;
  first = λ n v w h. elim (cases_lt n to) [
    | inl before ↦ none n v before h
    | inr after ↦ first.first n after w h
  ];
}
