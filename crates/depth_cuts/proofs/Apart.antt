-- Cuts that share no channel add up.
use Rattle.std.proofs.Common.{◌≡◌, ℕ, zero, suc, ◌+◌, ◌-◌, ◌*◌, ◌<◌, ◌≤◌, inl, inr, List, [], ◌∷◌, length, sym, ◌∙◌, ap, subst, arith}
use Rattle.std.proofs.lemmas.Bool.{cases_lt, cases_eq}
use Rattle.std.proofs.lemmas.List.{get_or_default, get_or-set_same, get_or-set_other, length-set}
use Rattle.std.specs.Prelude.{slice_index, slice_index_or, slice_set, All}
use Rattle.depth_cuts.specs.{Need, Cut, Demands, IsMet, AreDemands, bits_of, IsNeed, AddsBits, ReachesBits}
use Rattle.depth_cuts.proofs.Bits.{bits_rise}

-- one depth more
pub bits_set : (widths ds : List ℕ) (c n : ℕ) → c < length widths → c < length ds
    → bits_of widths (slice_set ds c n) + slice_index widths c * slice_index ds c ≡ bits_of widths ds + slice_index widths c * n
unfolding bits_of
bits_set [] ds c n l m = absurd (omega arith)
bits_set (w ∷ widths) [] c n l m = absurd (omega arith)
bits_set (w ∷ widths) (d ∷ ds) zero n l m = omega arith
bits_set (w ∷ widths) (d ∷ ds) (suc c) n l m = let rest = bits_set widths ds c n (omega arith) (omega arith) in omega arith

-- it adds what the depth is raised by
raised_bits : (widths ds : List ℕ) (c n rise : ℕ) → c < length widths → c < length ds → slice_index ds c ≤ n
    → rise ≤ (n - slice_index ds c) * slice_index widths c → bits_of widths ds + rise ≤ bits_of widths (slice_set ds c n)
raised_bits widths ds c n rise l m more few =
    let set = bits_set widths ds c n l m in
    let up : n ≡ (n - slice_index ds c) + slice_index ds c = omega arith in
    let product : slice_index widths c * n ≡ slice_index widths c * ((n - slice_index ds c) + slice_index ds c) =
    ap (λ (k : ℕ). slice_index widths c * k) up in
    omega arith

pub still_reached : (demands : Demands) (used ds : List ℕ) (rises : ℕ) → ReachesBits demands used ds rises → AddsBits demands ds rises
still_reached demands used ds rises h es above met =
    let x = h es above met in
    let more = bits_rise demands.widths x.between es (above.count ∙ sym x.count) x.below in
    let bits = x.bits in
    omega arith

-- a cut of unused channels adds its least rise
pub cut_reached : (demands : Demands) (used marked ds : List ℕ) (old rise new place : ℕ) (cut : Cut) → AreDemands demands
    → length ds ≡ length demands.floors → place < length demands.cuts → cut ≡ slice_index_or demands.cuts place cut
    → All (λ n. slice_index used n.channel ≡ 0) cut.needs → All (λ n. 1 ≤ slice_index marked n.channel) cut.needs
    → ((f : ℕ) → slice_index marked f ≡ 0 → slice_index used f ≡ 0)
    → All (λ n. rise ≤ (n.depth - slice_index ds n.channel) * slice_index demands.widths n.channel) cut.needs → new ≤ old + rise
    → ReachesBits demands used ds old → ReachesBits demands marked ds new
cut_reached demands used marked ds old rise new place cut asked count l is free full kept least sum h es above met =
    let x = h es above met in
    let here : IsMet cut es = subst (λ (c : Cut). IsMet c es) (sym is) (met place cut l) in
    let k = here.0 in
    let need = here.1 in
    let inside : k < length cut.needs = here.2 in
    let at : slice_index_or cut.needs k need ≡ need = here.3 in
    let deep : need.depth ≤ slice_index es need.channel = here.4 in
    let sound : IsNeed (length demands.floors) need =
    subst (IsNeed (length demands.floors)) at
    (subst (λ (c : Cut). All (IsNeed (length demands.floors)) c.needs) (sym is) (asked.needs place cut l) k need inside) in
    let unused : slice_index used need.channel ≡ 0 = subst (λ (n : Need). slice_index used n.channel ≡ 0) at (free k need inside) in
    let used_now : 1 ≤ slice_index marked need.channel = subst (λ (n : Need). 1 ≤ slice_index marked n.channel) at (full k need inside) in
    let few : rise ≤ (need.depth - slice_index ds need.channel) * slice_index demands.widths need.channel =
    subst (λ (n : Need). rise ≤ (n.depth - slice_index ds n.channel) * slice_index demands.widths n.channel) at (least k need inside) in
    let stands : slice_index x.between need.channel ≡ slice_index ds need.channel = x.unused need.channel unused in
    let channel = sound.channel in
    let widths = asked.count in
    let length_is = x.count in
    let bits = x.bits in
    elim (cases_lt need.depth (slice_index ds need.channel)) [
      | inl lower ↦
          let none : need.depth - slice_index ds need.channel ≡ 0 = omega arith in
          let nothing : rise ≤ 0 = omega (arith, rw none at few) in
          record {
            between = x.between;
            count = x.count;
            unused = λ f e. x.unused f (kept f e);
            below = x.below;
            bits = omega arith;
          }
      | inr higher ↦
          let more = raised_bits demands.widths x.between need.channel need.depth rise (omega arith) (omega arith) (omega arith)
          (rw stands few) in
          record {
            between = slice_set x.between need.channel need.depth;
            count = length-set x.between need.channel need.depth ∙ x.count;
            unused = λ f e. elim (cases_eq f need.channel) [
              | inl same ↦ let mark = ap (slice_index marked) same in absurd (omega arith)
              | inr other ↦ get_or-set_other x.between need.channel f need.depth 0 other ∙ x.unused f (kept f e)
            ];
            below = λ f. elim (cases_eq f need.channel) [
              | inl same ↦ rw same (rw (get_or-set_same x.between need.channel need.depth 0 (omega arith)) deep)
              | inr other ↦ rw (get_or-set_other x.between need.channel f need.depth 0 other) (x.below f)
            ];
            bits = omega arith;
          }
    ]

-- ---- marks

pub marked_here : (used : List ℕ) (c : ℕ) → c < length used → 1 ≤ slice_index (slice_set used c 1) c
marked_here used c l = rw (get_or-set_same used c 1 0 l) (omega arith)

pub still_marked : (used : List ℕ) (c f : ℕ) → c < length used → 1 ≤ slice_index used f → 1 ≤ slice_index (slice_set used c 1) f
still_marked used c f l m = elim (cases_eq f c) [
  | inl e ↦ rw e (marked_here used c l)
  | inr other ↦ rw (get_or-set_other used c f 1 0 other) m
]

pub never_marked : (used : List ℕ) (c f : ℕ) → c < length used → slice_index (slice_set used c 1) f ≡ 0 → slice_index used f ≡ 0
never_marked used c f l none = elim (cases_eq f c) [
  | inl e ↦ let here = marked_here used c l in let same = ap (slice_index (slice_set used c 1)) e in absurd (omega arith)
  | inr other ↦ sym (get_or-set_other used c f 1 0 other) ∙ none
]

-- the channels of the first n needs are marked in a list, and no others than in another one
pub record MarksMore (needs : List Need) (used : List ℕ) (n : ℕ) (new : List ℕ) : Type 0 where
  pub marked : (k : ℕ) (d : Need) → k < n → 1 ≤ slice_index new (slice_index_or needs k d).channel
  pub kept : (f : ℕ) → slice_index new f ≡ 0 → slice_index used f ≡ 0
  pub count : length new ≡ length used

pub one_more_marked : (used : List ℕ) (needs : List Need) (place : ℕ) (d : Need) → place < length needs
    → (slice_index_or needs place d).channel < length used
    → ((k : ℕ) (e : Need) → k < place → 1 ≤ slice_index used (slice_index_or needs k e).channel)
    → MarksMore needs used (place + 1) (slice_set used (slice_index_or needs place d).channel 1)
one_more_marked used needs place d l inside before =
    let channel = (slice_index_or needs place d).channel in
    record {
      marked = λ k e m. elim (cases_lt k place) [
        | inl below ↦ still_marked used channel _ inside (before k e below)
        | inr last ↦
            let same : k ≡ place = omega arith in
            let need : slice_index_or needs k e ≡ slice_index_or needs place d =
            ap (λ (j : ℕ). slice_index_or needs j e) same ∙ get_or_default needs place e d l in
            let it : (slice_index_or needs k e).channel ≡ channel = ap (λ (n : Need). n.channel) need in
            rw it (marked_here used channel inside)
      ];
      kept = λ f none. never_marked used channel f inside none;
      count = length-set used channel 1;
    }
