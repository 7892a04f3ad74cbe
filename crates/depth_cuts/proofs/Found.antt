-- What the search has found.
use Rattle.std.proofs.Common.{◌≡◌, ℕ, suc, ◌+◌, ◌<◌, ◌≤◌, inl, inr, Option, Some, List, length, sym, ◌∙◌, ap, subst, arith, []}
use Rattle.std.proofs.{lemmas.Bool.cases_lt, lemmas.Bool.cases_eq, lemmas.Bool.Decides.nat_tests}
use Rattle.std.proofs.lemmas.List.{get_or_default, get_or-set_same, get_or-set_other, length-set, set_past, set-set, set-get_or}
use Rattle.std.specs.Prelude.{slice_index, slice_index_or, slice_set, All}
use Rattle.depth_cuts.specs.{Need, Cut, Demands, Choice, Before, IsMet, IsUnmet, cut_at, MeetsBetween, AreAbove, AreDemands, bits_of}
use Rattle.depth_cuts.specs.{IsNeed, IsNoWorse, AreTried, Improves, IsAt, IsFound, IsSearched, IsNeedTried, need_at, swapped}
use Rattle.depth_cuts.proofs.Orders.{above_trans, no_worse_trans, above_no_better}

-- ---- cuts

-- deeper ones meet what is met
pub still_met : (cut : Cut) (ds es : List ℕ) → AreAbove ds es → IsMet cut ds → IsMet cut es
still_met cut ds es above met = (met.0, met.1, met.2, met.3, omega (arith, met.4, above.least met.1.channel))

-- one cut more
pub one_more_met : (cuts : List Cut) (from n : ℕ) (ds : List ℕ) → MeetsBetween cuts from n ds → IsMet (cut_at cuts n) ds
    → MeetsBetween cuts from (suc n) ds
one_more_met cuts from n ds met here k l m = elim (cases_lt k n) [
  | inl below ↦ met k l below
  | inr last ↦ let e : k ≡ n = omega arith in subst (λ (j : ℕ). IsMet (cut_at cuts j) ds) (sym e) here
]

-- the cut that stands at a place
pub is_cut : (cuts : List Cut) (n : ℕ) (cut : Cut) → n < length cuts → cut ≡ slice_index_or cuts n cut → cut ≡ cut_at cuts n
is_cut cuts n cut l e = e ∙ get_or_default cuts n cut (record { needs = [] }) l

pub met_there : (cuts : List Cut) (n : ℕ) (cut : Cut) (ds : List ℕ) → n < length cuts → cut ≡ slice_index_or cuts n cut → IsMet cut ds
    → IsMet (cut_at cuts n) ds
met_there cuts n cut ds l e met = subst (λ (c : Cut). IsMet c ds) (is_cut cuts n cut l e) met

-- ---- what is lent

pub lent_met : (cuts lent : List Cut) (from n : ℕ) (ds shown : List ℕ) → lent ≡ cuts → shown ≡ ds → MeetsBetween lent from n shown
    → MeetsBetween cuts from n ds
lent_met cuts lent from n ds shown e f met =
    subst (λ (cs : List Cut). MeetsBetween cs from n ds) e (subst (MeetsBetween lent from n) f met)

pub lent_unmet : (cuts lent : List Cut) (n : ℕ) (ds shown : List ℕ) → lent ≡ cuts → shown ≡ ds → IsUnmet (cut_at lent n) shown
    → IsUnmet (cut_at cuts n) ds
lent_unmet cuts lent n ds shown e f unmet =
    subst (λ (cs : List Cut). IsUnmet (cut_at cs n) ds) e (subst (IsUnmet (cut_at lent n)) f unmet)

-- ---- the end of the cuts

-- what is no worse than the depths at hand is no worse than all from them on
pub none_better : (demands : Demands) (found : Choice) (ds : List ℕ) → IsNoWorse demands.widths found.depths ds
    → IsSearched demands ds (Some found)
none_better demands found ds no_worse es above met =
    no_worse_trans demands.widths found.depths ds es no_worse (above_no_better demands.widths ds es above)

pub found_here : (demands : Demands) (from next : ℕ) (at found : Choice) → IsAt demands from at
    → MeetsBetween demands.cuts from next at.depths → length demands.cuts ≤ next → found ≡ at → IsFound demands found
found_here demands from next at found h met all e = subst (IsFound demands) (sym e) (record {
  covers = record {
    above = h.above;
    met = λ k d l.
        let here : IsMet (cut_at demands.cuts k) at.depths = elim (cases_lt k from) [
          | inl below ↦ h.met k (omega arith) below
          | inr later ↦ met k later (omega arith)
        ] in
        subst (λ (c : Cut). IsMet c at.depths) (get_or_default demands.cuts k (record { needs = [] }) d l) here;
  };
  bits = h.bits;
})

-- ---- one need

-- a channel that is raised, or more
raised_above : (ds : List ℕ) (c n : ℕ) → c < length ds → slice_index ds c ≤ n → AreAbove ds (slice_set ds c n)
raised_above ds c n l more = record {
  count = length-set ds c n;
  least = λ f. elim (cases_eq f c) [
    | inl e ↦ rw e (rw (get_or-set_same ds c n 0 l) more)
    | inr other ↦ rw (get_or-set_other ds c f n 0 other) (omega arith)
  ];
}

pub reaches_raised : (ds es : List ℕ) (c n : ℕ) → AreAbove ds es → n ≤ slice_index es c → AreAbove (slice_set ds c n) es
reaches_raised ds es c n above deep = record {
  count = above.count ∙ sym (length-set ds c n);
  least = λ f. elim (cases_eq f c) [
    | inl e ↦ elim (cases_lt c (length ds)) [
      | inl l ↦ rw e (rw (get_or-set_same ds c n 0 l) deep)
      | inr past ↦ rw (set_past ds c n past) (above.least f)
    ]
    | inr other ↦ rw (get_or-set_other ds c f n 0 other) (above.least f)
  ];
}

-- one of the needs of a cut that is not met
pub raised_at : (demands : Demands) (from next : ℕ) (at new : Choice) (cut : Cut) (k : ℕ) → AreDemands demands → IsAt demands from at
    → from ≤ next → next < length demands.cuts → MeetsBetween demands.cuts from next at.depths
    → cut ≡ slice_index_or demands.cuts next cut → IsUnmet (cut_at demands.cuts next) at.depths → k < length cut.needs
    → new.depths ≡ slice_set at.depths (need_at cut.needs k).channel (need_at cut.needs k).depth
    → new.bits ≡ bits_of demands.widths new.depths → IsAt demands (next + 1) new
raised_at demands from next at new cut k asked h rising l met is_it unmet m depths bits =
    let need = need_at cut.needs k in
    let is = is_cut demands.cuts next cut l is_it in
    let few = subst (λ (c : Cut). IsUnmet c at.depths) (sym is) unmet k (record { channel = 0; depth = 0 }) m in
    let sound = subst (λ (c : Cut). All (IsNeed (length demands.floors)) c.needs) (sym is_it) (asked.needs next cut l)
    k (record { channel = 0; depth = 0 }) m in
    let inside : need.channel < length at.depths = omega (arith, sound.channel, h.above.count) in
    let raised = subst (λ (ds : List ℕ). AreAbove at.depths ds) (sym depths)
    (raised_above at.depths need.channel need.depth inside (omega (arith, few))) in
    let before : MeetsBetween demands.cuts 0 next at.depths = λ j a b. elim (cases_lt j from) [
      | inl below ↦ h.met j a below
      | inr later ↦ met j later b
    ] in
    let deep : need.depth ≤ slice_index new.depths need.channel =
    rw depths (rw (get_or-set_same at.depths need.channel need.depth 0 inside) (omega arith)) in
    let here : IsMet cut new.depths = (k, need, m, get_or_default cut.needs k need (record { channel = 0; depth = 0 }) m, deep) in
    let last : suc next ≡ next + 1 = omega arith in
    record {
      above = above_trans demands.floors at.depths new.depths h.above raised;
      most = λ f. elim (cases_eq f need.channel) [
        | inl e ↦ rw depths (rw e (rw (get_or-set_same at.depths need.channel need.depth 0 inside) sound.most))
        | inr other ↦ rw depths (rw (get_or-set_other at.depths need.channel f need.depth 0 other) (h.most f))
      ];
      bits = bits;
      met = subst (λ (n : ℕ). MeetsBetween demands.cuts 0 n new.depths) last
          (one_more_met demands.cuts 0 next new.depths
          (λ j a b. still_met (cut_at demands.cuts j) at.depths new.depths raised (before j a b))
          (subst (λ (c : Cut). IsMet c new.depths) is here));
    }

-- ---- its place again

pub is_put_back : (at raised new : Choice) (c n : ℕ) (before : Before) → raised.depths ≡ slice_set at.depths c n
    → before ≡ record { depth = slice_index at.depths c; bits = at.bits } → new.depths ≡ slice_set raised.depths c before.depth
    → new.bits ≡ before.bits → new ≡ at
is_put_back at raised new c n before rose was depths bits =
    let back : new.depths ≡ at.depths =
    depths ∙ (ap (λ (ds : List ℕ). slice_set ds c before.depth) rose
    ∙ (set-set at.depths c n before.depth ∙ (ap (λ (b : Before). slice_set at.depths c b.depth) was ∙ set-get_or at.depths c 0))) in
    let count : new.bits ≡ at.bits = bits ∙ ap (λ (b : Before). b.bits) was in
    λ i. record { depths = back i; bits = count i }

-- ---- all needs

swapped_twice : (first k : ℕ) → swapped first (swapped first k) ≡ k
swapped_twice first k = grind (arith, nat_tests)

swapped_within : (first k n : ℕ) → first < n → k < n → swapped first k < n
swapped_within first k n l m = grind (arith, nat_tests)

pub turn_within : (first turn n k : ℕ) → (0 < n → first < n) → turn < n → k ≡ swapped first turn → k < n
turn_within first turn n k within l e = rw e (swapped_within first turn n (within (omega arith)) l)

pub all_tried : (demands : Demands) (ds : List ℕ) (best : Option Choice) (cut : Cut) (next first turns : ℕ)
    → next < length demands.cuts → cut ≡ slice_index_or demands.cuts next cut → (0 < length cut.needs → first < length cut.needs)
    → length cut.needs ≤ turns → AreTried demands ds best cut.needs first turns → IsSearched demands ds best
all_tried demands ds best cut next first turns l is_it within all tried es above met =
    let here = subst (λ (c : Cut). IsMet c es) (sym is_it) (met next cut l) in
    let k = here.0 in
    let turn = swapped first k in
    let inside : k < length cut.needs = here.2 in
    let turned = swapped_within first k (length cut.needs) (within (omega arith)) inside in
    let at : swapped first turn ≡ k = swapped_twice first k in
    let it : need_at cut.needs (swapped first turn) ≡ here.1 =
    ap (need_at cut.needs) at ∙ (get_or_default cut.needs k (record { channel = 0; depth = 0 }) here.1 inside ∙ here.3) in
    tried turn (omega arith) es above met (subst (λ (n : Need). n.depth ≤ slice_index es n.channel) (sym it) here.4)

pub one_more_tried : (demands : Demands) (ds : List ℕ) (old best : Option Choice) (needs : List Need) (first turn : ℕ)
    → AreTried demands ds old needs first turn → Improves demands.widths old best
    → IsNeedTried demands ds best (need_at needs (swapped first turn)) → AreTried demands ds best needs first (turn + 1)
one_more_tried demands ds old best needs first turn tried better here k l = elim (cases_lt k turn) [
  | inl m ↦ λ es above met deep. better es (tried k m es above met deep)
  | inr m ↦
      let e : k ≡ turn = omega arith in
      subst (λ (j : ℕ). IsNeedTried demands ds best (need_at needs (swapped first j))) (sym e) here
]
