-- What is found of a plan with the advised depths.
use Rattle.std.proofs.Common.{◌≡◌, ℕ, ◌+◌, ◌<◌, ◌≤◌, List, length, refl, sym, ◌∙◌, ap, subst, arith, ◌⊎◌, inl, inr}
use Rattle.std.proofs.lemmas.Bool.{cases_lt}
use Rattle.std.specs.Prelude.{◌≢◌}
use Rattle.flow_design.specs.declared.limits.TheConstants.{CYCLES}
use Rattle.flow_design.specs.declared.report.Verdict.TheVariants.{Done, Deadlock, Cycles, Ops}
use Rattle.least_depths.specs.{Plan, Verdict, FitsEngine, report, verdict, with_depths, AreDepths, AreDeeper, AsksNothing, IsDoneBy}
use Rattle.least_depths.specs.{advised, wide, untouched, lowered, AreLeast, all_bits, Sizes, sizes_of, sized_by, sizes, first_runs}
use Rattle.least_depths.specs.{IsNoLater, IsLeast}
use Rattle.depth_order.proofs.{Order.done_ended, Plans.depths_fit}
use Rattle.depth_advice.proofs.{Depths.advised_depths, Depths.never_blocks, Faster.advised_fastest}
use Rattle.least_depths.proofs.{Depths.same_depths, Depths.same_least, Few.few_in_all, Sessions.report_told}
use Rattle.least_depths.proofs.Least.{lowered_first, none_lower}
use Rattle.path_check.proofs.Depths.{own_depths}

-- ---- of any plan

-- what is found by its verdict
pub record IsSized (p : Plan) (slack : ℕ) (v : Verdict) (x : Sizes) : Type 0 where
  pub depths : AreDepths p x.depths
  pub lower : AreDeeper p x.depths p.depths
  pub verdict : x.verdict ≡ verdict (with_depths p x.depths)
  pub in_time : IsNoLater slack v x.verdict
  pub least : AsksNothing p → (clock : ℕ) → v ≡ Done clock → AreLeast p (clock + slack) x.depths
  pub few : x.tries ≤ all_bits p.depths

left : (p : Plan) → FitsEngine p → (slack : ℕ) (v : Verdict) → verdict p ≡ v → IsNoLater slack v v → ((clock : ℕ) → v ≢ Done clock)
    → IsSized p slack v (sizes_of (untouched p))
left p h slack v e in_time other = record {
  depths = own_depths p h;
  lower = λ f k. omega arith;
  verdict = refl;
  in_time = subst (IsNoLater slack v) (sym e) in_time;
  least = λ none clock done. absurd (other clock done);
  few = omega arith;
}

found_of : (p : Plan) → FitsEngine p → (slack : ℕ) (v : Verdict) → verdict p ≡ v → IsSized p slack v (sized_by slack p v)
found_of p h slack (Done clock) e =
    let all = length p.design.channels in
    let x = lowered_first p h (clock + slack) all in
    record {
      depths = x.lower.depths;
      lower = x.lower.lower;
      verdict = ap verdict x.lower.same;
      in_time = x.done (subst (IsDoneBy (clock + slack)) (sym e) (omega arith));
      least = λ none c done.
          let same : clock ≡ c = cc in
          subst (λ (k : ℕ). AreLeast p (k + slack) (lowered p (clock + slack) all).plan.depths) same
          (none_lower p h none (clock + slack) (lowered p (clock + slack) all).plan.depths x.lower.depths (x.least none));
      few = few_in_all p h (clock + slack);
    }
found_of p h slack (Deadlock clock) e = left p h slack (Deadlock clock) e tt (λ c done. absurd (cc))
found_of p h slack (Cycles clock) e = left p h slack (Cycles clock) e tt (λ c done. absurd (cc))
found_of p h slack (Ops clock) e = left p h slack (Ops clock) e tt (λ c done. absurd (cc))

-- ---- with the advised depths

pub advised_sized : (slack : ℕ) (p : Plan) → FitsEngine p
    → IsSized (with_depths p (advised p)) slack (verdict (with_depths p (advised p))) (sizes slack p)
unfolding sizes
advised_sized slack p h =
    let q = with_depths p (advised p) in
    found_of q (depths_fit p h (advised p) (advised_depths p h)) slack (verdict q) refl

-- without queries no depths are done earlier
same_end : (p : Plan) → FitsEngine p → AsksNothing p → (ds : List ℕ) → AreDepths p ds → (clock : ℕ)
    → verdict (with_depths p (advised p)) ≡ Done clock → (v : Verdict) → verdict (with_depths p ds) ≡ v → IsDoneBy clock v → v ≡ Done clock
same_end p h none ds a clock advised_end (Done c) e l =
    let first : clock ≤ c = subst (IsDoneBy c) advised_end (advised_fastest p h none ds a c e) in
    let same : c ≡ clock = omega arith in
    ap Done same
same_end p h none ds a clock advised_end (Deadlock c) e l = absurd l
same_end p h none ds a clock advised_end (Cycles c) e l = absurd l
same_end p h none ds a clock advised_end (Ops c) e l = absurd l

kept_by : (p : Plan) → FitsEngine p → AsksNothing p → (v : Verdict) → verdict (with_depths p (advised p)) ≡ v
    → (sized_by 0 (with_depths p (advised p)) v).verdict ≡ v
kept_by p h none (Done clock) e =
    let q = with_depths p (advised p) in
    let x = found_of q (depths_fit p h (advised p) (advised_depths p h)) 0 (Done clock) e in
    let found = sized_by 0 q (Done clock) in
    let same : clock + 0 ≡ clock = omega arith in
    same_end p h none found.depths (same_depths p (advised p) found.depths x.depths) clock e found.verdict (sym x.verdict)
    (subst (λ (k : ℕ). IsDoneBy k found.verdict) same x.in_time)
kept_by p h none (Deadlock clock) e = e
kept_by p h none (Cycles clock) e = e
kept_by p h none (Ops clock) e = e

pub kept : (p : Plan) → FitsEngine p → AsksNothing p → (sizes 0 p).verdict ≡ verdict (with_depths p (advised p))
unfolding sizes
kept p h none = kept_by p h none (verdict (with_depths p (advised p))) refl

-- what is found without queries is least
pub least : (slack : ℕ) (p : Plan) → FitsEngine p → AsksNothing p
    → IsLeast p slack (verdict (with_depths p (advised p))) (sizes slack p).depths
least slack p h none clock e =
    same_least p (advised p) (clock + slack) (sizes slack p).depths ((advised_sized slack p h).least none clock e)

-- ---- how they are found

-- the verdict that the advice tells
pub advised_verdict : (p q : Plan) → FitsEngine p → q ≡ p → (v : Verdict) → v ≡ (report (wide q)).verdict
    → verdict (with_depths p (advised p)) ≡ v
advised_verdict p q fits own v told =
    report_told (with_depths p (advised p)) (report (wide p)) (never_blocks p fits)
    ∙ sym (told ∙ ap (λ (r : Plan). (report (wide r)).verdict) own)

pub done_sizes : (slack : ℕ) (p : Plan) (ds : List ℕ) (clock : ℕ) → ds ≡ advised p → verdict (with_depths p (advised p)) ≡ Done clock
    → sizes_of (lowered (with_depths p ds) (clock + slack) (length p.design.channels)) ≡ sizes slack p
unfolding sizes
done_sizes slack p ds clock e v =
    ap (λ (es : List ℕ). sizes_of (lowered (with_depths p es) (clock + slack) (length p.design.channels))) e
    ∙ sym (ap (sized_by slack (with_depths p (advised p))) v)

-- one of the other verdicts
pub other_end : (v : Verdict) → ((c : ℕ) × (v ≡ Deadlock c)) ⊎ (((c : ℕ) × (v ≡ Cycles c)) ⊎ ((c : ℕ) × (v ≡ Ops c))) → (clock : ℕ)
    → v ≢ Done clock
other_end v (inl (c, e)) clock done = absurd (cc)
other_end v (inr (inl (c, e))) clock done = absurd (cc)
other_end v (inr (inr (c, e))) clock done = absurd (cc)

pub left_sizes : (slack : ℕ) (p : Plan) (ds : List ℕ) (v : Verdict) → ((clock : ℕ) → v ≢ Done clock) → ds ≡ advised p
    → verdict (with_depths p (advised p)) ≡ v → record { verdict = v; depths = ds; tries = 0 } ≡ sizes slack p
unfolding sizes
left_sizes slack p ds v other e told =
    (λ i. record { verdict = sym told i; depths = e i; tries = 0 })
    ∙ (by_verdict v other ∙ sym (ap (sized_by slack (with_depths p (advised p))) told))
  where
    by_verdict : (w : Verdict) → ((clock : ℕ) → w ≢ Done clock)
        → sizes_of (untouched (with_depths p (advised p))) ≡ sized_by slack (with_depths p (advised p)) w
    by_verdict (Done clock) h = absurd (h clock refl)
    by_verdict (Deadlock clock) h = refl
    by_verdict (Cycles clock) h = refl
    by_verdict (Ops clock) h = refl

-- ---- how often a runner is called for them

done_runs : (clock : ℕ) (v : Verdict) → IsDoneBy clock v → first_runs v ≡ 2
done_runs clock (Done c) l = refl
done_runs clock (Deadlock c) l = absurd l
done_runs clock (Cycles c) l = absurd l
done_runs clock (Ops c) l = absurd l

left_runs : (v : Verdict) → ((clock : ℕ) → v ≢ Done clock) → first_runs v ≡ 1
left_runs (Done clock) h = absurd (h clock refl)
left_runs (Deadlock clock) h = refl
left_runs (Cycles clock) h = refl
left_runs (Ops clock) h = refl

-- twice where the plan with the advised depths is done
pub two_runs : (slack : ℕ) (p : Plan) → FitsEngine p → (clock : ℕ) → verdict (with_depths p (advised p)) ≡ Done clock
    → first_runs (sizes slack p).verdict ≡ 2
two_runs slack p h clock told =
    done_runs (clock + slack) (sizes slack p).verdict
    (subst (λ (v : Verdict). IsNoLater slack v (sizes slack p).verdict) told (advised_sized slack p h).in_time)

-- and else once
pub one_run : (slack : ℕ) (p : Plan) (ds : List ℕ) (v : Verdict) → ((clock : ℕ) → v ≢ Done clock) → ds ≡ advised p
    → verdict (with_depths p (advised p)) ≡ v → first_runs (sizes slack p).verdict ≡ 1
one_run slack p ds v other e told =
    ap (λ (x : Sizes). first_runs x.verdict) (sym (left_sizes slack p ds v other e told)) ∙ left_runs v other

-- a run that is counted as far as the count goes
pub one_run_more : (old new most : ℕ) → (old < most → new ≡ old + 1) → (most ≤ old → new ≡ old) → new ≤ old + 1
one_run_more old new most more stays = elim (cases_lt old most) [
  | inl l ↦ let is = more l in omega arith
  | inr l ↦ let is = stays l in omega arith
]

-- ---- clocks are small numbers

pub clock_within : (p : Plan) → FitsEngine p → (clock : ℕ) → verdict (with_depths p (advised p)) ≡ Done clock → clock ≤ CYCLES
clock_within p h clock told =
    let few = (done_ended (with_depths p (advised p)) clock told).0 in
    let most = h.cycles in
    omega arith

-- the end with the advised depths is in time
pub end_in_time : (p : Plan) (ds : List ℕ) (clock slack : ℕ) → ds ≡ advised p → verdict (with_depths p (advised p)) ≡ Done clock
    → IsDoneBy (clock + slack) (verdict (with_depths p ds))
end_in_time p ds clock slack e told =
    subst (IsDoneBy (clock + slack)) (sym (ap (λ (es : List ℕ). verdict (with_depths p es)) e ∙ told)) (omega arith)
