-- What the clocks of a FIFO's ports tell of it.
use Rattle.std.proofs.Common.{◌≡◌, ℕ, zero, suc, ◌+◌, ◌-◌, ◌<◌, ◌≤◌, List, ◌∷◌, map, max, true, length, arith, refl, sym, ap, ap₂, ◌∙◌}
use Rattle.std.specs.List.{fold, range_with_len}
use Rattle.port_clocks.specs.{Port, Plan, is_fifo, kind_at, FitsEngine, fill, last_clock, before, most_ahead, ArePortClocks, peak}
use Rattle.flow_word.specs.declared.access.Side.TheVariants.{Pop, Push}
use Rattle.timelines.proofs.FillCounts.{counted}
use Rattle.port_clocks.proofs.Counting.{same_clocks}

pub one_list : (p : Plan) (port : Port) (xs ys : List ℕ) → ArePortClocks p port xs → ArePortClocks p port ys → xs ≡ ys
one_list p port xs ys h k = same_clocks (last_clock p) xs ys h.in_order k.in_order (λ c l. h.counts c l ∙ sym (k.counts c l))

pub fill_told : (p : Plan) → FitsEngine p → (f : ℕ) → f < length p.design.channels → is_fifo (kind_at p f) ≡ true → (pops pushes : List ℕ)
    → ArePortClocks p (record { side = Pop; channel = f }) pops → ArePortClocks p (record { side = Push; channel = f }) pushes
    → (clock : ℕ) → clock ≤ last_clock p → fill p f clock + before pops clock ≡ before pushes clock
fill_told p fits f l fifo pops pushes h k clock w =
    omega (arith, counted p fits f clock l fifo, h.counts clock w, k.counts clock w)

same_maps : (g h : ℕ → ℕ) (a n : ℕ) → ((c : ℕ) → c < a + n → g c ≡ h c) → map g (range_with_len a n) ≡ map h (range_with_len a n)
same_maps g h a zero e = refl
same_maps g h a (suc n) e =
    ap₂ (λ (x : ℕ) (xs : List ℕ). x ∷ xs) (e a (omega arith)) (same_maps g h (a + 1) n (λ c l. e c (omega arith)))

-- the peak of a FIFO is by how many its pushes are ahead of its pops at most
pub peak_told : (p : Plan) → FitsEngine p → (f : ℕ) → f < length p.design.channels → is_fifo (kind_at p f) ≡ true → (pops pushes : List ℕ)
    → ArePortClocks p (record { side = Pop; channel = f }) pops → ArePortClocks p (record { side = Push; channel = f }) pushes
    → peak p f ≡ most_ahead pushes pops (last_clock p)
unfolding peak most_ahead
peak_told p fits f l fifo pops pushes h k =
    ap (fold max 0) (same_maps (fill p f) (λ c. before pushes c - before pops c) 0 (last_clock p + 1) (λ c m.
    omega (arith, fill_told p fits f l fifo pops pushes h k c (omega arith))))
