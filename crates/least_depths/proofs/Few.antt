-- How many depths are tried.
use Rattle.std.proofs.Common.{◌≡◌, ℕ, zero, suc, ◌/◌, ◌^◌, ◌<◌, ◌≤◌, length, take, refl, sym, ◌∙◌, ap, arith, inl, inr, add-one}
use Rattle.std.proofs.{lemmas.Bool.cases_Bool, lemmas.List.get_or-set_other, Math.Nat.two-pow-succ}
use Rattle.std.proofs.lemmas.List.Sums.{sum_by_more, sum_by-take-le}
use Rattle.std.specs.Prelude.{slice_index}
use Rattle.least_depths.specs.{Plan, is_fifo, kind_at, FitsEngine, digits, bits, is_in_time, least_for, lowered, all_bits}
use Rattle.least_depths.proofs.Halves.{few_tries}
use Rattle.path_check.proofs.Depths.{own_depths}

below_digits : (k n : ℕ) → n ≤ k → n < 2 ^ digits k n
below_digits zero n l = omega arith
below_digits (suc k) zero l = omega arith
below_digits (suc k) (suc n) l = let half = below_digits k (suc n / 2) (omega arith) in
    let twice = two-pow-succ (digits k (suc n / 2)) in omega arith

below_bits : (n : ℕ) → n < 2 ^ bits n
unfolding bits
below_bits n = below_digits n n (omega arith)

-- the depths of the channels after the first n
untouched_yet : (p : Plan) (clock n f : ℕ) → n ≤ f → slice_index (lowered p clock n).plan.depths f ≡ slice_index p.depths f
unfolding lowered
untouched_yet p clock zero f l = refl
untouched_yet p clock (suc n) f l = elim (cases_Bool (is_fifo (kind_at p n))) [
  | inl e ↦
      let q = (lowered p clock n).plan in
      rw e (get_or-set_other q.depths n f (least_for q clock n).number 0 (λ same. absurd (omega arith))
      ∙ untouched_yet p clock n f (omega arith))
  | inr e ↦ rw e (untouched_yet p clock n f (omega arith))
]

few_first : (p : Plan) → FitsEngine p → (clock n : ℕ) → n ≤ length p.depths → (lowered p clock n).tries ≤ all_bits (take n p.depths)
unfolding lowered
few_first p h clock zero l = omega arith
few_first p h clock (suc n) l =
    let old = few_first p h clock n (omega arith) in
    let sum = ap (λ (k : ℕ). all_bits (take k p.depths)) (sym (add-one n)) ∙ sum_by_more bits p.depths n 0 (omega arith) in
    elim (cases_Bool (is_fifo (kind_at p n))) [
      | inl e ↦
          let q = (lowered p clock n).plan in
          let same = untouched_yet p clock n n (omega arith) in
          let low = (own_depths p h).least n e in
          let below = below_bits (slice_index p.depths n) in
          let few = few_tries (is_in_time q clock n) (slice_index q.depths n) 1 (slice_index q.depths n) (omega arith) (omega arith)
          (bits (slice_index p.depths n)) (omega arith) in
          rw e (omega arith)
      | inr e ↦ rw e (omega arith)
    ]

pub few_in_all : (p : Plan) → FitsEngine p → (clock : ℕ) → (lowered p clock (length p.design.channels)).tries ≤ all_bits p.depths
few_in_all p h clock =
    let count = h.depths in
    let few = few_first p h clock (length p.design.channels) (omega arith) in
    let part = sum_by-take-le bits p.depths (length p.design.channels) in
    omega arith
