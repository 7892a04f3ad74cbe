-- A verified outcome is that of a step which the history does before the limit.
use Rattle.std.proofs.Common.{arith, ◌≡◌, ℕ, ◌<◌, true, inl, inr}
use Rattle.std.proofs.lemmas.Bool.{cases_order, both_ways}
use Rattle.event_timing.specs.{Design, Trace, core_accesses, has_query, IsAgreed, HappensBefore, Core.Core}

pub verified_happens : {S : Type 0} → (d : Design S) (h : Trace S) (limit : ℕ) (x : Core S) → IsAgreed d h limit x → (m k : ℕ)
    → k < x.emitted m → x.verified m k ≡ true → has_query (core_accesses d x m k) ≡ true → HappensBefore d h limit m k
verified_happens {S} d h limit x a m k l v q =
    let u = a.time in
    elim (cases_order k (x.timed m)) [
      | inl e ↦ grind (arith, u.first_happens m)
      | inr (inl e) ↦ (x.cycle m k, u.below m k e, (u.steps_then m k e, u.done_then m k e))
      | inr (inr e) ↦ absurd (both_ways _ (u.later_plain m k e l v) q)
    ]
