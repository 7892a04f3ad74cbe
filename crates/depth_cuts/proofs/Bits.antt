-- The bits of depths.
use Rattle.std.proofs.Common.{◌≡◌, ℕ, zero, suc, ◌+◌, ◌*◌, ◌<◌, ◌≤◌, List, [], ◌∷◌, length, take, refl, arith, add-one}
use Rattle.std.proofs.{Math.Nat.mul-le-mul_left, lemmas.Nat.mul-le}
use Rattle.std.specs.Prelude.{slice_index, All}
use Rattle.flow_design.specs.declared.limits.TheConstants.{FIFO_DEPTH}
use Rattle.depth_cuts.specs.{bits_of}

-- deeper FIFOs take no fewer bits
pub bits_rise : (widths ds es : List ℕ) → length es ≡ length ds → ((f : ℕ) → slice_index ds f ≤ slice_index es f)
    → bits_of widths ds ≤ bits_of widths es
unfolding bits_of
bits_rise [] ds es count more = omega arith
bits_rise (w ∷ widths) [] [] count more = omega arith
bits_rise (w ∷ widths) [] (e ∷ es) count more = omega arith
bits_rise (w ∷ widths) (d ∷ ds) [] count more = absurd (omega arith)
bits_rise (w ∷ widths) (d ∷ ds) (e ∷ es) count more =
    let rest = bits_rise widths ds es (omega arith) (λ f. more (suc f)) in
    let here = mul-le-mul_left w (more 0) in
    omega arith

-- with one channel more
bits_at : (widths ds : List ℕ) (k : ℕ) → k < length widths → k < length ds
    → bits_of (take (suc k) widths) (take (suc k) ds) ≡ bits_of (take k widths) (take k ds) + slice_index widths k * slice_index ds k
unfolding bits_of
bits_at [] ds k l m = absurd (omega arith)
bits_at (w ∷ widths) [] k l m = absurd (omega arith)
bits_at (w ∷ widths) (d ∷ ds) zero l m = omega arith
bits_at (w ∷ widths) (d ∷ ds) (suc k) l m =
    let rest = bits_at widths ds k (omega arith) (omega arith) in
    omega arith

pub bits_more : (widths ds : List ℕ) (k : ℕ) → k < length widths → k < length ds
    → bits_of (take (k + 1) widths) (take (k + 1) ds) ≡ bits_of (take k widths) (take k ds) + slice_index widths k * slice_index ds k
bits_more widths ds k l m = rw add-one (bits_at widths ds k l m)

pub bits_none : (widths ds : List ℕ) → bits_of (take 0 widths) (take 0 ds) ≡ 0
unfolding bits_of
bits_none widths ds = refl

-- of one channel
pub few_bits : (widths ds : List ℕ) (k : ℕ) → k < length widths → All (λ w. w ≤ 64) widths → ((f : ℕ) → slice_index ds f ≤ FIFO_DEPTH)
    → slice_index widths k * slice_index ds k ≤ 64 * FIFO_DEPTH
few_bits widths ds k l narrow most = mul-le (slice_index widths k) (slice_index ds k) 64 FIFO_DEPTH (narrow k 0 l) (most k)
