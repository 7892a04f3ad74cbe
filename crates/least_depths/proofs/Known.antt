-- What a late depth says of the depths that are tried.
use Rattle.std.proofs.Common.{◌≡◌, ℕ, ◌<◌, ◌≤◌, true, false, sym, ◌∙◌, subst, arith, inl, inr}
use Rattle.std.proofs.lemmas.Bool.{cases_Bool}
use Rattle.flow_design.specs.declared.limits.TheConstants.{FIFO_DEPTH}
use Rattle.least_depths.specs.{Plan, with_depth, FitsEngine, verdict, AsksNothing, IsLateBelow, AreKnown, HasDepth, is_in_time, lowered}
use Rattle.path_check.proofs.Depths.{own_depths}
use Rattle.least_depths.proofs.{Depths.test_done_by, Least.in_time_more, Least.lowered_first}

-- ---- the plan with the first channels lowered

pub quiet_lowered : (p : Plan) → FitsEngine p → (clock n : ℕ) (q : Plan) → q ≡ (lowered p clock n).plan → AsksNothing p → AsksNothing q
quiet_lowered p h clock n q e none = subst AsksNothing (sym (e ∙ (lowered_first p h clock n).lower.same)) none

-- ---- the depths of one FIFO

late_known : (p : Plan) (clock f bound d : ℕ) → IsLateBelow p clock f bound → 1 ≤ d → d ≤ FIFO_DEPTH → d < bound
    → is_in_time p clock f d ≡ false
late_known p clock f bound d late low high below = elim (cases_Bool (is_in_time p clock f d)) [
  | inl e ↦ absurd (late d low high below (test_done_by clock (verdict (with_depth p f d)) e))
  | inr e ↦ e
]

-- where the bound is tried and is in time
pub known_timely : (p : Plan) → FitsEngine p → AsksNothing p → (clock f bound : ℕ) → HasDepth p f → IsLateBelow p clock f bound
    → 1 ≤ bound → is_in_time p clock f bound ≡ true
    → AreKnown p f (record { clock = clock; late_below = bound; timely_from = bound })
known_timely p h none clock f bound x late low t =
    let most = x.most in
    record {
      late = λ d some less below. late_known p clock f bound d late some (omega arith) below;
      timely = λ d some less from. in_time_more p h none p.depths (own_depths p h) f x.fifo clock bound d low from (omega arith) t;
    }
