-- Rounds one action further, and the first Earliest.
use Rattle.std.proofs.Common.{◌≡◌, ℕ, zero, suc, ◌<◌, ◌≤◌, Bool, true, false, ◌||◌, ap, ap₂, ◌∙◌, cond, arith, Option, Some, None, inl, inr}
use Rattle.std.proofs.lemmas.Bool.{cases_Bool, cond-true, cond-false, both_ways, or_cases}
use Rattle.std.specs.Option.{is_none}
use Rattle.timing_bridge.specs.{Design, candidate, view, MayAssign, MayAnswer, MayEarliest, after_assign, after_answer, IsInside}
use Rattle.timing_bridge.specs.{may_assign, may_answer, may_earliest, cycle_found, may_time, after_timing, next_timing, timings}
use Rattle.timing_bridge.specs.{first_earliest, earliest_of, then_on}
use Rattle.event_timing.specs.Core.{Core}
use Rattle.event_timing.proofs.Deciding.{assign_decided, answer_decided, earliest_decided}
use Rattle.timing_bridge.proofs.Rounds.{from_found, none_round, round_here, round_on, round_over}
use Rattle.timing_bridge.proofs.Timings.{found_is}

-- ---- one Assign or Answer

module _ {S : Type 0} (d : Design S) (limit : ℕ) (x : Core S) (m : ℕ) where
  pub assigned_is : (c : ℕ) → MayAssign d limit x m c → (may_time d limit x m ≡ true) × (after_timing d limit x m ≡ after_assign x m c)
  unfolding may_time after_timing
  assigned_is c may =
      let here = (assign_decided d limit x m).1 (c, may) in (
        ap (λ (b : Bool). b || may_answer d limit x m) here,
        cond-true (may_assign d limit x m) _ _ here ∙ ap (after_assign x m) (found_is d limit x m c may.determined.at),
      )

  not_assigned : x.verified m (x.timed m) ≡ false → may_assign d limit x m ≡ false
  not_assigned e =
      elim (cases_Bool (may_assign d limit x m)) [
        | inl t ↦ let (c, may) = (assign_decided d limit x m).0 t in absurd (both_ways _ e may.verified)
        | inr f ↦ f
      ]

  -- where no outcome is verified yet, nothing but an answer
  pub opened_is : (c : ℕ) → candidate d (view d x) m ≡ Some c → x.verified m (x.timed m) ≡ false
      → after_timing d limit x m ≡ after_answer d x m c
  unfolding after_timing
  opened_is c at e =
      cond-false (may_assign d limit x m) _ _ (not_assigned e) ∙ ap (after_answer d x m) (found_is d limit x m c at)

  pub answered_is : (c : ℕ) → MayAnswer d limit x m c → (may_time d limit x m ≡ true) × (after_timing d limit x m ≡ after_answer d x m c)
  unfolding may_time
  answered_is c may =
      let none = not_assigned may.open_query in (
        ap₂ (λ (a b : Bool). a || b) none ((answer_decided d limit x m).1 (c, may)),
        opened_is c may.determined.at may.open_query,
      )

  pub idle_is : ((c : ℕ) → MayAssign d limit x m c → ⊥) → ((c : ℕ) → MayAnswer d limit x m c → ⊥) → may_time d limit x m ≡ false
  unfolding may_time
  idle_is no_assign no_answer =
      elim (cases_Bool (may_assign d limit x m || may_answer d limit x m)) [
        | inl t ↦ absurd (some t)
        | inr f ↦ f
      ]
    where
      some : (may_assign d limit x m || may_answer d limit x m) ≡ true → ⊥
      some t =
          elim (or_cases (may_assign d limit x m) (may_answer d limit x m) t) [
            | inl a ↦ let (c, may) = (assign_decided d limit x m).0 a in no_assign c may
            | inr a ↦ let (c, may) = (answer_decided d limit x m).0 a in no_answer c may
          ]

-- ---- the rounds

module _ {S : Type 0} (d : Design S) (limit : ℕ) where
  -- from wherever the next is the same
  timings_from : (n at to : ℕ) (x : Core S) → next_timing d limit x at ≡ next_timing d limit x to
      → timings d limit n at x ≡ timings d limit n to x
  timings_from zero at to x e = ap (λ (o : Option ℕ). cond {A = Option (Core S)} (is_none o) (Some x) None) e
  timings_from (suc n) at to x e = ap (λ (o : Option ℕ). then_on o (λ m. timings d limit n m (after_timing d limit x m))) e

  -- where a module has nothing to do, rounds go on after it
  pub timings_on : (n at : ℕ) (x : Core S) → at < d.modules → may_time d limit x at ≡ false
      → timings d limit n at x ≡ timings d limit n (suc at) x
  unfolding next_timing
  timings_on n at x l e = timings_from n at (suc at) x (round_on (may_time d limit x) d.modules at l e)

  -- and after the last one with the first
  pub timings_over : (n : ℕ) (x : Core S) → timings d limit n d.modules x ≡ timings d limit n 0 x
  unfolding next_timing
  timings_over n x = timings_from n d.modules 0 x (round_over (may_time d limit x) d.modules)

  pub timings_more : (n at : ℕ) (x : Core S) → at < d.modules → may_time d limit x at ≡ true
      → timings d limit (suc n) at x ≡ timings d limit n at (after_timing d limit x at)
  unfolding next_timing
  timings_more n at x l e =
      ap (λ (o : Option ℕ). then_on o (λ m. timings d limit n m (after_timing d limit x m)))
      (round_here (may_time d limit x) d.modules at l e)

  pub next_none : (at : ℕ) (x : Core S) → at ≤ d.modules → ((m : ℕ) → m < d.modules → may_time d limit x m ≡ false)
      → next_timing d limit x at ≡ None
  unfolding next_timing
  next_none at x l none = none_round (may_time d limit x) d.modules at l none

  pub timings_none : (at : ℕ) (x : Core S) → next_timing d limit x at ≡ None → timings d limit 0 at x ≡ Some x
  timings_none at x e = ap (λ (o : Option ℕ). cond {A = Option (Core S)} (is_none o) (Some x) None) e

  -- ---- the first Earliest

  -- the first module that may do an Earliest does it
  pub earliest_found : (x : Core S) → IsInside d x → (m c : ℕ) → m < d.modules → MayEarliest d limit x m c
      → ((k : ℕ) → k < m → (e : ℕ) → MayEarliest d limit x k e → ⊥) → earliest_of d limit x ≡ Some (after_answer d x m c)
  unfolding first_earliest
  earliest_found x inside m c l may before =
      ap (λ (o : Option ℕ). then_on o (λ m. Some (after_answer d x m (cycle_found d x m))))
      (from_found (may_earliest d limit x) 0 d.modules m (omega arith) (omega (arith, l)) (λ k p q. none k q)
      ((earliest_decided d limit x inside m).1 (c, may)))
      ∙ ap (λ (n : ℕ). Some (after_answer d x m n)) (found_is d limit x m c may.open_step.determined.at)
    where
      none : (k : ℕ) → k < m → may_earliest d limit x k ≡ false
      none k q =
          elim (cases_Bool (may_earliest d limit x k)) [
            | inl t ↦ let (e, p) = (earliest_decided d limit x inside k).0 t in absurd (before k q e p)
            | inr f ↦ f
          ]
