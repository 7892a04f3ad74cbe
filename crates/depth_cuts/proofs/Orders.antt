-- Which depths come first: an order of all lists of so many depths, in which deeper ones come later.
use Rattle.std.proofs.Common.{◌≡◌, ℕ, zero, suc, ◌<◌, ◌⊎◌, inl, inr, List, length, sym, ◌∙◌, subst, arith}
use Rattle.std.proofs.{lemmas.Bool.cases_lt, lemmas.List.ext_get_or}
use Rattle.std.specs.Prelude.{slice_index}
use Rattle.depth_cuts.specs.{AreAbove, bits_of, IsEarlier, ComesBefore, IsNoWorse}
use Rattle.depth_cuts.proofs.Bits.{bits_rise}

-- ---- above

pub above_trans : (ds es fs : List ℕ) → AreAbove ds es → AreAbove es fs → AreAbove ds fs
above_trans ds es fs a b = record { count = b.count ∙ a.count; least = λ f. omega (arith, a.least f, b.least f) }

-- ---- earlier

pub earlier_trans : (ds es fs : List ℕ) → IsEarlier ds es → IsEarlier es fs → IsEarlier ds fs
earlier_trans ds es fs a b = elim (cases_lt a.place b.place) [
  | inl l ↦ record {
    place = a.place;
    same = λ f m. a.same f m ∙ b.same f (omega arith);
    less = omega (arith, a.less, b.same a.place l);
  }
  | inr l ↦ elim (cases_lt b.place a.place) [
    | inl m ↦ record {
      place = b.place;
      same = λ f k. a.same f (omega arith) ∙ b.same f k;
      less = omega (arith, b.less, a.same b.place m);
    }
    | inr m ↦
        let e : b.place ≡ a.place = omega arith in
        let late : slice_index es a.place < slice_index fs a.place = subst (λ (k : ℕ). slice_index es k < slice_index fs k) e b.less in
        record {
          place = a.place;
          same = λ f k. a.same f k ∙ b.same f (omega arith);
          less = omega (arith, a.less);
        }
  ]
]

-- the first place where deeper ones differ, below one
first_below : (ds es : List ℕ) → AreAbove ds es → (n : ℕ) → ((f : ℕ) → f < n → slice_index ds f ≡ slice_index es f) ⊎ IsEarlier ds es
first_below ds es a zero = inl (λ f l. absurd (omega arith))
first_below ds es a (suc n) = elim (first_below ds es a n) [
  | inr earlier ↦ inr earlier
  | inl same ↦ elim (cases_lt (slice_index ds n) (slice_index es n)) [
    | inl less ↦ inr (record { place = n; same = same; less = less })
    | inr no_less ↦ inl (λ f l. elim (cases_lt f n) [
      | inl m ↦ same f m
      | inr m ↦
          let e : f ≡ n = omega arith in
          let here : slice_index ds n ≡ slice_index es n = omega (arith, a.least n) in
          subst (λ (k : ℕ). slice_index ds k ≡ slice_index es k) (sym e) here
    ])
  ]
]

-- deeper ones are the same, or later
pub above_later : (ds es : List ℕ) → AreAbove ds es → (ds ≡ es) ⊎ IsEarlier ds es
above_later ds es a = elim (first_below ds es a (length ds)) [
  | inl same ↦ inl (ext_get_or 0 ds es (sym a.count) same)
  | inr earlier ↦ inr earlier
]

-- ---- no worse

before_trans : (widths ds es fs : List ℕ) → ComesBefore widths ds es → ComesBefore widths es fs → ComesBefore widths ds fs
before_trans widths ds es fs (inl l) (inl m) = inl (omega arith)
before_trans widths ds es fs (inl l) (inr (e, later)) = inl (omega arith)
before_trans widths ds es fs (inr (e, earlier)) (inl m) = inl (omega arith)
before_trans widths ds es fs (inr (e, earlier)) (inr (f, later)) = inr (e ∙ f, earlier_trans ds es fs earlier later)

pub no_worse_trans : (widths ds es fs : List ℕ) → IsNoWorse widths ds es → IsNoWorse widths es fs → IsNoWorse widths ds fs
no_worse_trans widths ds es fs (inl e) b = subst (λ (xs : List ℕ). IsNoWorse widths xs fs) (sym e) b
no_worse_trans widths ds es fs (inr a) (inl e) = subst (λ (xs : List ℕ). IsNoWorse widths ds xs) e (inr a)
no_worse_trans widths ds es fs (inr a) (inr b) = inr (before_trans widths ds es fs a b)

-- deeper ones are no better
pub above_no_better : (widths ds es : List ℕ) → AreAbove ds es → IsNoWorse widths ds es
above_no_better widths ds es a = elim (above_later ds es a) [
  | inl same ↦ inl same
  | inr earlier ↦
      let more = bits_rise widths ds es a.count a.least in
      elim (cases_lt (bits_of widths ds) (bits_of widths es)) [
        | inl fewer ↦ inr (inl fewer)
        | inr as_many ↦ inr (inr (omega arith, earlier))
      ]
]
