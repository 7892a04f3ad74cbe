-- Depths with another one for one FIFO, and the plan's own.
use Rattle.std.proofs.Common.{◌≡◌, ℕ, ◌<◌, ◌≤◌, true, false, List, length, sym, ◌∙◌, subst, arith, inl, inr}
use Rattle.std.proofs.lemmas.Bool.{cases_eq, cases_lt}
use Rattle.std.proofs.lemmas.List.{get_or-set_same, get_or-set_other, set-get_or, length-set, get_or_past}
use Rattle.std.specs.Prelude.{slice_index, slice_index_or, slice_set, []}
use Rattle.flow_design.specs.declared.limits.TheConstants.{FIFO_DEPTH}
use Rattle.flow_design.specs.declared.design.ChannelKind.TheVariants.{Source, Sink, Fifo}
use Rattle.path_check.specs.{ChannelKind, Plan, is_fifo, kind_at, FitsEngine, AreEntriesSound, AreDepths, AreDeeper}
use Rattle.depth_order.proofs.Plans.{fifo_inside}

-- ---- one depth more

pub depth_inside : (p : Plan) (ds : List ℕ) (f : ℕ) → AreDepths p ds → is_fifo (kind_at p f) ≡ true → f < length ds
depth_inside p ds f a e = let inside = fifo_inside p f e in let count = a.count in omega arith

-- what holds of the depth of each FIFO, and of the new one
by_places : (P : ℕ → ℕ → Type 0) (ds : List ℕ) (f d : ℕ) → f < length ds → P f d → (g : ℕ) → P g (slice_index ds g)
    → P g (slice_index (slice_set ds f d) g)
by_places P ds f d l new g old = elim (cases_eq g f) [
  | inl e ↦ rw e (subst (P f) (sym (get_or-set_same ds f d 0 l)) new)
  | inr e ↦ subst (P g) (sym (get_or-set_other ds f g d 0 e)) old
]

pub set_depths : (p : Plan) (ds : List ℕ) (f d : ℕ) → AreDepths p ds → is_fifo (kind_at p f) ≡ true → 1 ≤ d → d ≤ FIFO_DEPTH
    → AreDepths p (slice_set ds f d)
set_depths p ds f d a e low high =
    let l = depth_inside p ds f a e in
    record {
      count = length-set ds f d ∙ a.count;
      least = λ g h. by_places (λ _ n. 1 ≤ n) ds f d l low g (a.least g h);
      most = λ g h. by_places (λ _ n. n ≤ FIFO_DEPTH) ds f d l high g (a.most g h);
      others = λ g h. by_places (λ k n. is_fifo (kind_at p k) ≡ false → n ≡ 0) ds f d l (λ no. absurd (cc)) g (a.others g) h;
    }

pub set_deeper : (p : Plan) (ds es : List ℕ) (f a b : ℕ) → AreDepths p ds → AreDepths p es → is_fifo (kind_at p f) ≡ true
    → AreDeeper p ds es → a ≤ b → AreDeeper p (slice_set ds f a) (slice_set es f b)
set_deeper p ds es f a b x y e more l g h = elim (cases_eq g f) [
  | inl same ↦
      let below = get_or-set_same ds f a 0 (depth_inside p ds f x e) in
      let above = get_or-set_same es f b 0 (depth_inside p es f y e) in
      rw same (omega arith)
  | inr other ↦
      let below = get_or-set_other ds f g a 0 other in
      let above = get_or-set_other es f g b 0 other in
      let old = more g h in
      omega arith
]

-- one depth lowered alone
pub set_lower : (p : Plan) (ds : List ℕ) (f a : ℕ) → AreDepths p ds → is_fifo (kind_at p f) ≡ true → a ≤ slice_index ds f
    → AreDeeper p (slice_set ds f a) ds
set_lower p ds f a x e l = subst (AreDeeper p (slice_set ds f a)) (set-get_or ds f 0)
    (set_deeper p ds ds f a (slice_index ds f) x x e (λ g h. omega arith) l)

-- ---- the plan's own depths

own_entry : (k : ChannelKind) (inputs : List ℕ) (depth : ℕ) → AreEntriesSound k inputs depth
    → (is_fifo k ≡ true → (1 ≤ depth) × (depth ≤ FIFO_DEPTH)) × (is_fifo k ≡ false → depth ≡ 0)
own_entry Source inputs depth h = (λ e. absurd (cc), λ e. h)
own_entry Sink inputs depth h = (λ e. absurd (cc), λ e. h.1)
own_entry (Fifo declared delay) inputs depth h = (λ e. (h.1, h.2), λ e. absurd (cc))

pub own_depths : (p : Plan) → FitsEngine p → AreDepths p p.depths
own_depths p h = record {
  count = h.depths;
  least = λ f e. ((entry f (fifo_inside p f e)).0 e).0;
  most = λ f e. ((entry f (fifo_inside p f e)).0 e).1;
  others = λ f e. elim (cases_lt f (length p.design.channels)) [
    | inl l ↦ (entry f l).1 e
    | inr l ↦ let count = h.depths in get_or_past p.depths f 0 (omega arith)
  ];
}
  where
    entry : (f : ℕ) → f < length p.design.channels
        → (is_fifo (kind_at p f) ≡ true → (1 ≤ slice_index p.depths f) × (slice_index p.depths f ≤ FIFO_DEPTH))
        × (is_fifo (kind_at p f) ≡ false → slice_index p.depths f ≡ 0)
    entry f l = own_entry (kind_at p f) (slice_index_or p.inputs f []) (slice_index p.depths f) (h.channels f l).entries
