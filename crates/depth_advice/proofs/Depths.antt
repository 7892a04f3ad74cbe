-- The advised depths are above each peak and within the limit, so no FIFO is full with them.
use Rattle.std.proofs.Common.{◌≡◌, ℕ, suc, ◌+◌, ◌≤◌, ◌<◌, List, length, true, false, cond, refl, sym, ◌∙◌, ap, subst, arith, inl, inr}
use Rattle.std.proofs.Common.{zero-add}
use Rattle.std.proofs.lemmas.Bool.{cases_Bool, cases_lt, cond-true, cond-false, lt-leb}
use Rattle.std.proofs.{lemmas.List.get_or_past, lemmas.List.FromFn.length-map-range_with_len, lemmas.List.FromFn.get_or-map-range_with_len}
use Rattle.std.specs.Prelude.{slice_index}
use Rattle.flow_design.specs.declared.limits.TheConstants.{FIFO_DEPTH}
use Rattle.depth_advice.specs.{Plan, Element, is_fifo, kind_at, FitsEngine, clock_of, contents_of, Moment, state, report, fill, last_clock}
use Rattle.depth_advice.specs.{with_depths, AreDepths, AreDeeper, peak, depths_by, wide, advised, HoldsLess}
use Rattle.depth_order.proofs.Plans.{depths_fit, fifo_inside}
use Rattle.port_clocks.proofs.Most.{greatest_over, greatest_under}
use Rattle.depth_advice.proofs.{Alike.NoneFull, Alike.NeitherBefore, Alike.moment_same, Alike.verdict_same, Alike.report_same, Few.fill_few}

-- ---- one entry per channel

entry_at : (p : Plan) (depth : ℕ → ℕ) (f : ℕ) → f < length p.design.channels
    → slice_index (depths_by p depth) f ≡ cond (is_fifo (kind_at p f)) (depth f) 0
entry_at p depth f l =
    get_or-map-range_with_len (λ g. cond (is_fifo (kind_at p g)) (depth g) 0) 0 (length p.design.channels) f f 0 l (zero-add f)

pub fifo_entry : (p : Plan) (depth : ℕ → ℕ) (f : ℕ) → is_fifo (kind_at p f) ≡ true → slice_index (depths_by p depth) f ≡ depth f
fifo_entry p depth f e = entry_at p depth f (fifo_inside p f e) ∙ cond-true (is_fifo (kind_at p f)) (depth f) 0 e

pub count_entries : (p : Plan) (depth : ℕ → ℕ) → length (depths_by p depth) ≡ length p.design.channels
count_entries p depth = length-map-range_with_len (λ g. cond (is_fifo (kind_at p g)) (depth g) 0) 0 (length p.design.channels)

other_entry : (p : Plan) (depth : ℕ → ℕ) (f : ℕ) → is_fifo (kind_at p f) ≡ false → slice_index (depths_by p depth) f ≡ 0
other_entry p depth f e = elim (cases_lt f (length p.design.channels)) [
  | inl l ↦ entry_at p depth f l ∙ cond-false (is_fifo (kind_at p f)) (depth f) 0 e
  | inr l ↦ let past : length (depths_by p depth) ≤ f = omega (arith, count_entries p depth) in get_or_past (depths_by p depth) f 0 past
]

pub are_depths : (p : Plan) (depth : ℕ → ℕ) → ((f : ℕ) → is_fifo (kind_at p f) ≡ true → (1 ≤ depth f) × (depth f ≤ FIFO_DEPTH))
    → AreDepths p (depths_by p depth)
are_depths p depth h = record {
  count = count_entries p depth;
  least = λ f e. subst (λ (n : ℕ). 1 ≤ n) (sym (fifo_entry p depth f e)) (h f e).0;
  most = λ f e. subst (λ (n : ℕ). n ≤ FIFO_DEPTH) (sym (fifo_entry p depth f e)) (h f e).1;
  others = other_entry p depth;
}

-- ---- the widest depths

pub wide_depths : (p : Plan) → AreDepths p (depths_by p (λ f. FIFO_DEPTH))
wide_depths p = are_depths p (λ f. FIFO_DEPTH) (λ f e. (omega arith, omega arith))

pub wide_fits : (p : Plan) → FitsEngine p → FitsEngine (wide p)
wide_fits p h = depths_fit p h (depths_by p (λ f. FIFO_DEPTH)) (wide_depths p)

-- ---- peaks

pub fill_below_peak : (p : Plan) (f c : ℕ) → c ≤ last_clock p → fill p f c ≤ peak p f
unfolding peak
fill_below_peak p f c l = greatest_over (fill p f) (last_clock p + 1) c (omega arith)

pub peak_few : (p : Plan) → FitsEngine p → (f : ℕ) → is_fifo (kind_at p f) ≡ true → peak p f ≤ p.ops
unfolding peak
peak_few p h f e = greatest_under (fill p f) (last_clock p + 1) p.ops (λ c l. fill_few p h f c e)

-- ---- advised depths

pub advised_depths : (p : Plan) → FitsEngine p → AreDepths p (advised p)
advised_depths p h = are_depths p (λ f. peak (wide p) f + 1) (λ f e.
    let few = peak_few (wide p) (wide_fits p h) f e in
    let limit = h.operations in
    (omega arith, omega arith))

-- a channel that has fewer elements than its depth is not full
none_full : (p : Plan) (contents : List (List Element))
    → ((f : ℕ) → is_fifo (kind_at p f) ≡ true → length (contents_of contents f) < slice_index p.depths f) → NoneFull p contents
none_full p contents h f = elim (cases_Bool (is_fifo (kind_at p f))) [
  | inl e ↦ rw e (lt-leb (slice_index p.depths f) (length (contents_of contents f)) (h f e))
  | inr e ↦ rw e refl
]

-- by their fills in this clock
fills_below : (p : Plan) (ds : List ℕ) (c : ℕ) → ((f : ℕ) → is_fifo (kind_at p f) ≡ true → fill p f c < slice_index ds f)
    → NoneFull (with_depths p ds) (state p c).contents
unfolding fill
fills_below p ds c h = none_full (with_depths p ds) (state p c).contents h

-- and so it is with any depths that are no lesser
module _ (p : Plan) (h : FitsEngine p) (ds : List ℕ) (deep : AreDeeper p (advised p) ds) where
  neither_full : NeitherBefore (wide p) ds (suc (last_clock (wide p)))
  neither_full c l =
      let q = wide p in
      let fits = wide_fits p h in
      let limit = h.operations in (
        fills_below q q.depths c (λ f e.
            let few = fill_few q fits f c e in
            let most = fifo_entry p (λ g. FIFO_DEPTH) f e in
            omega arith),
        fills_below q ds c (λ f e.
            let below = fill_below_peak q f c (omega arith) in
            let least = fifo_entry p (λ g. peak q g + 1) f e in
            let more = deep f e in
            omega arith),
      )

  pub deep_blocks_never : report (with_depths p ds) ≡ report (wide p)
  deep_blocks_never = report_same (wide p) ds neither_full

  pub deep_never_full : HoldsLess (with_depths p ds) (advised p)
  unfolding fill
  deep_never_full f clock e l =
      let q = wide p in
      let last : last_clock (with_depths p ds) ≡ last_clock q = ap clock_of (verdict_same q ds neither_full) in
      let same = moment_same q ds clock (λ b k. neither_full b (omega arith)) in
      let below = fill_below_peak q f clock (omega arith) in
      let least = fifo_entry p (λ g. peak q g + 1) f e in
      subst (λ (x : Moment). length (contents_of x.state.contents f) < slice_index (advised p) f) (sym same) (omega arith)

pub never_blocks : (p : Plan) → FitsEngine p → report (with_depths p (advised p)) ≡ report (wide p)
never_blocks p h = deep_blocks_never p h (advised p) (λ f e. omega arith)
