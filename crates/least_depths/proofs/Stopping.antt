-- FIFOs are lowered alike where the plan stops at the wanted clock.
use Rattle.std.proofs.Common.{◌≡◌, ℕ, zero, suc, ◌∙◌, Bool, refl, ap, inl, inr}
use Rattle.std.proofs.lemmas.Bool.{cases_Bool}
use Rattle.std.specs.Prelude.{slice_index}
use Rattle.least_depths.specs.{Plan, is_fifo, kind_at, with_depth, FitsEngine, verdict, IsDoneBy, halved, sizes_of, limited, least_for}
use Rattle.least_depths.specs.{Lowered, with_found, lowered}
use Rattle.least_depths.proofs.{Least.lowered_first, Limits.same_test, Limits.same_verdict}

-- halving finds the same depth
same_found : (p : Plan) (clock f : ℕ) → least_for (limited clock p) clock f ≡ least_for p clock f
same_found p clock f =
    ap (λ (fits : ℕ → Bool). halved fits (slice_index p.depths f) 1 (slice_index p.depths f)) (λ i d. same_test (with_depth p f d) clock i)

-- a plan that stops at the clock, and as many tries
abbrev stopped : ℕ → Lowered → Lowered
stopped clock x = record { plan = limited clock x.plan; tries = x.tries }

same_lowered : (p : Plan) (clock n : ℕ) → lowered (limited clock p) clock n ≡ stopped clock (lowered p clock n)
unfolding lowered
same_lowered p clock zero = refl
same_lowered p clock (suc n) = elim (cases_Bool (is_fifo (kind_at p n))) [
  | inr e ↦ rw e (same_lowered p clock n)
  | inl e ↦ rw e (
      ap (λ (x : Lowered). with_found x n (least_for x.plan clock n)) (same_lowered p clock n)
      ∙ ap (with_found (stopped clock (lowered p clock n)) n) (same_found (lowered p clock n).plan clock n))
]

pub same_tries : (p : Plan) (clock n : ℕ) → (lowered (limited clock p) clock n).tries ≡ (lowered p clock n).tries
same_tries p clock n = ap (λ (x : Lowered). x.tries) (same_lowered p clock n)

-- so the sizes are the same, where the plan is done by the clock
pub same_sizes : (p : Plan) → FitsEngine p → (clock n : ℕ) → IsDoneBy clock (verdict p)
    → sizes_of (lowered (limited clock p) clock n) ≡ sizes_of (lowered p clock n)
same_sizes p h clock n done =
    ap sizes_of (same_lowered p clock n)
    ∙ (λ i. record {
      verdict = same_verdict (lowered p clock n).plan clock ((lowered_first p h clock n).done done) i;
      depths = (lowered p clock n).plan.depths;
      tries = (lowered p clock n).tries;
    })
