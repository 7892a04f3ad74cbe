-- The clocks of spans, span by span.
use Rattle.std.proofs.Common.{◌≡◌, ℕ, ◌<◌, ◌≤◌, List, ◌^◌, ap, ◌∙◌, arith, length, get_or, Bool, Some}
use Rattle.std.proofs.{lemmas.List.get_or_default, lemmas.List.Sums.count_by-le-length, lemmas.List.FromFn.length-range_with_len}
use Rattle.std.specs.{Prelude.All, List.range_with_len}
use Rattle.stall_text.specs.{Plan, FitsEngine, last_clock, Doing, Span, doing, AreSpans, spans_clocks, is_still_at, doing_passes, clocks_in}
use Rattle.stall_text.specs.{still_clocks_at, Side, HasChannelBelow}
use Rattle.timelines.specs.declared.span.Doing.TheVariants.{Moves, Still}
use Rattle.timelines.proofs.{Existing.counted_spans, Adding.cause_inside, Lists.contains_member, Extending.spans_listed, Ending.last_within}

-- of each channel the clocks in which the module stands still at this side
pub record AreStill (side : Side) (channels : ℕ) (spans : List Span) (clocks : List ℕ) : Type 0 where
  pub count : length clocks ≡ channels
  pub each : (f : ℕ) → f < channels → get_or clocks f 0 ≡ spans_clocks (is_still_at (record { side = side; channel = f })) spans

-- ---- the spans of a module

inside_by : (p : Plan) → FitsEngine p → (c i : ℕ) (d : Doing) → doing p c i ≡ Some d → HasChannelBelow (length p.design.channels) d
inside_by p h c i Moves e = tt
inside_by p h c i (Still port) e = cause_inside p h c i port e

pub spans_inside : (p : Plan) → FitsEngine p → (i : ℕ) (ss : List Span) → AreSpans p i ss
    → All (λ (s : Span). HasChannelBelow (length p.design.channels) s.doing) ss
spans_inside p f i ss a k d l =
    let s = get_or ss k d in
    let h = (spans_listed p i (last_clock p) ss a).are s (contains_member ss s (k, l, get_or_default ss k _ _ l)) in
    inside_by p f s.first i s.doing (h.throughout s.first (omega arith) h.some)

clocks_few : (test : Doing → Bool) (p : Plan) (i end : ℕ) → clocks_in test p i end ≤ end
unfolding clocks_in
clocks_few test p i end =
    omega (arith, count_by-le-length (λ c. doing_passes test (doing p c i)) (range_with_len 0 end), length-range_with_len 0 end)

pub spans_few : (p : Plan) → FitsEngine p → (i : ℕ) (ss : List Span) → AreSpans p i ss → (test : Doing → Bool)
    → spans_clocks test ss < 2 ^ 64
spans_few p fits i ss a test =
    let most = fits.cycles in
    omega (arith, counted_spans test p i (last_clock p) ss a, clocks_few test p i (last_clock p), last_within p)

-- those of a side of a channel, by a list of them
pub still_is : (p : Plan) (i : ℕ) (side : Side) (spans ss : List Span) → AreSpans p i spans → ss ≡ spans → (n : ℕ)
    → n ≡ length p.design.channels → (clocks xs : List ℕ) → xs ≡ clocks
    → ((f : ℕ) → f < n → get_or clocks f 0 ≡ spans_clocks (is_still_at (record { side = side; channel = f })) ss)
    → (f : ℕ) → f < length p.design.channels → get_or xs f 0 ≡ still_clocks_at p i side f
still_is p i side spans ss a e n m clocks xs q each f l =
    let test = is_still_at (record { side = side; channel = f }) in
    ap (λ (ys : List ℕ). get_or ys f 0) q
    ∙ (each f (omega arith) ∙ (ap (spans_clocks test) e ∙ counted_spans test p i (last_clock p) spans a))
