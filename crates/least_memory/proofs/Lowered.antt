-- The cheapest depths are no greater than what is asked of each channel.
use Rattle.std.proofs.Common.{◌≡◌, ℕ, ◌<◌, ◌≤◌, inl, inr, List, length, refl, sym, ◌∙◌, ap, subst, arith}
use Rattle.std.proofs.lemmas.List.{get_or_past, get_or-set_same, get_or-set_other, length-set}
use Rattle.std.proofs.lemmas.Bool.{cases_lt, cases_eq}
use Rattle.std.specs.Prelude.{slice_index, slice_index_or, slice_set, All}
use Rattle.least_memory.specs.{Need, Cut, Demands, IsMet, AreAbove, Covers, IsEarlier, IsNoWorse, IsCheapest}
use Rattle.depth_cuts.proofs.Orders.{earlier_trans, above_no_better}

-- ---- an order

earlier_never_self : (ds : List ℕ) → IsEarlier ds ds → ⊥
earlier_never_self ds h = let less = h.less in omega arith

-- of two lists that are no worse than one another
pub no_worse_both : (widths ds es : List ℕ) → IsNoWorse widths ds es → IsNoWorse widths es ds → ds ≡ es
no_worse_both widths ds es (inl e) b = e
no_worse_both widths ds es (inr a) (inl e) = sym e
no_worse_both widths ds es (inr (inl l)) (inr (inl m)) = absurd (omega arith)
no_worse_both widths ds es (inr (inl l)) (inr (inr (e, late))) = absurd (omega arith)
no_worse_both widths ds es (inr (inr (e, early))) (inr (inl m)) = absurd (omega arith)
no_worse_both widths ds es (inr (inr (e, early))) (inr (inr (f, late))) = absurd (earlier_never_self ds (earlier_trans ds es ds early late))

-- ---- one channel lowered

module _ (demands : Demands) (ds : List ℕ) (h : IsCheapest demands ds) (f top : ℕ) (floor : slice_index demands.floors f ≤ top)
    (few : All (λ cut. All (λ (n : Need). n.channel ≡ f → n.depth ≤ top) cut.needs) demands.cuts) (above : top < slice_index ds f) where
  abbrev lower : List ℕ
  lower = slice_set ds f top

  inside : f < length ds
  inside = elim (cases_lt f (length ds)) [
    | inl l ↦ l
    | inr past ↦ let none = get_or_past ds f 0 past in absurd (omega arith)
  ]

  at_lower : (g : ℕ) → (g ≡ f → slice_index lower g ≡ top) × (¬ (g ≡ f) → slice_index lower g ≡ slice_index ds g)
  at_lower g = (λ e. rw e (get_or-set_same ds f top 0 inside), λ other. get_or-set_other ds f g top 0 other)

  still_met : (cut : Cut) → All (λ (n : Need). n.channel ≡ f → n.depth ≤ top) cut.needs → IsMet cut ds → IsMet cut lower
  still_met cut low met =
      let (k, need, l, is, deep) = met in
      let its : need.channel ≡ f → need.depth ≤ top = rw is at (low k need l) in (
        k,
        need,
        l,
        is,
        elim (cases_eq need.channel f) [
          | inl e ↦ let here = (at_lower need.channel).0 e in let most = its e in omega arith
          | inr other ↦ let there = (at_lower need.channel).1 other in omega arith
        ],
      )

  lower_covers : Covers demands lower
  lower_covers = record {
    above = record {
      count = length-set ds f top ∙ h.covers.above.count;
      least = λ g. elim (cases_eq g f) [
        | inl e ↦ let here = (at_lower g).0 e in let least = subst (λ (k : ℕ). slice_index demands.floors k ≤ top) (sym e) floor in omega
            arith
        | inr other ↦ let there = (at_lower g).1 other in let least = h.covers.above.least g in omega arith
      ];
    };
    met = λ k d l. still_met (slice_index_or demands.cuts k d) (few k d l) (h.covers.met k d l);
  }

  below : AreAbove lower ds
  below = record {
    count = sym (length-set ds f top);
    least = λ g. elim (cases_eq g f) [
      | inl e ↦ let here = (at_lower g).0 e in let more = subst (λ (k : ℕ). top < slice_index ds k) (sym e) above in omega arith
      | inr other ↦ let there = (at_lower g).1 other in omega arith
    ];
  }

  never_above : ⊥
  never_above =
      let same = no_worse_both demands.widths ds lower (h.first lower lower_covers) (above_no_better demands.widths lower ds below) in
      let here = (at_lower f).0 refl in
      let entry = ap (λ (xs : List ℕ). slice_index xs f) same in
      omega arith

-- no entry of the cheapest depths is above what its floor and all needs of it allow
pub cheapest_within : (demands : Demands) (ds : List ℕ) → IsCheapest demands ds → (f top : ℕ) → slice_index demands.floors f ≤ top
    → All (λ cut. All (λ (n : Need). n.channel ≡ f → n.depth ≤ top) cut.needs) demands.cuts → slice_index ds f ≤ top
cheapest_within demands ds h f top floor few = elim (cases_lt top (slice_index ds f)) [
  | inl above ↦ absurd (never_above demands ds h f top floor few above)
  | inr within ↦ within
]
