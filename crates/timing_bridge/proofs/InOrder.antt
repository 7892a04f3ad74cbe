-- The steps of a final core in order are the history that the report tells.
use Rattle.std.proofs.Common.{◌≡◌, ℕ, zero, suc, ◌+◌, ◌-◌, ◌<◌, true, false, ◌⊎◌, inl, inr, List, sym, ◌∙◌, ap, arith}
use Rattle.std.proofs.lemmas.Bool.{cases_Bool, cases_eq}
use Rattle.timing_bridge.specs.{Plan, ModuleState, FitsEngine, clock_of, HistoryStep, state, history, NoneBefore, is_settled, verdict}
use Rattle.timing_bridge.specs.{IsFinal, IsAgreed, design, lockstep_run, AreInOrder}
use Rattle.lockstep_defs.proofs.{Found.verdict_found, Found.verdict_none, Order.in_order, Settled.history_stays, Exits.clock_settled}
use Rattle.event_timing.specs.Core.{Core}
use Rattle.event_timing.proofs.FinalReport.{done_limit}
use Rattle.timing_bridge.proofs.{History.plan_is_design, History.run_is_history, Steps.all_steps, Steps.events_are}

module _ (p : Plan) (fits : FitsEngine p) (limit : ℕ) (x : Core ModuleState) (g : IsAgreed (design p) (lockstep_run p) limit x)
    (f : IsFinal (design p) limit x) where
  pub history_in_order : AreInOrder p x (history p limit)
  history_in_order =
      record {
        rising = in_order p limit;
        each = λ i. sym (all_steps p fits limit x g limit
            (done_limit (design p) (lockstep_run p) (plan_is_design p fits) (run_is_history p fits) limit x g f) i);
      }

  pub only_in_order : (steps : List HistoryStep) → AreInOrder p x steps → steps ≡ history p limit
  only_in_order = events_are p fits limit x g limit
      (done_limit (design p) (lockstep_run p) (plan_is_design p fits) (run_is_history p fits) limit x g f)

-- ---- the history after the verdict's clock

-- the first settled clock of so many, if there is one
search : (p : Plan) (n : ℕ) → NoneBefore p n ⊎ ((c : ℕ) × (c < n) × (is_settled p c (state p c) ≡ true) × NoneBefore p c)
search p zero = inl (λ b l. absurd (omega arith))
search p (suc n) = found (search p n) (cases_Bool (is_settled p n (state p n)))
  where
    found : NoneBefore p n ⊎ ((c : ℕ) × (c < n) × (is_settled p c (state p c) ≡ true) × NoneBefore p c)
        → (is_settled p n (state p n) ≡ true) ⊎ (is_settled p n (state p n) ≡ false)
        → NoneBefore p (suc n) ⊎ ((c : ℕ) × (c < suc n) × (is_settled p c (state p c) ≡ true) × NoneBefore p c)
    found (inr (c, l, s, none)) e = inr (c, omega arith, s, none)
    found (inl none) (inl s) = inr (n, omega arith, s, none)
    found (inl none) (inr s) =
        inl (λ b l. elim (cases_eq b n) [ inl e ↦ ap (λ (c : ℕ). is_settled p c (state p c)) e ∙ s | inr e ↦ none b (omega arith) ])

-- nothing is done from the verdict's clock up to the cycle limit
pub reported_history : (p : Plan) → history p p.cycles ≡ history p (clock_of (verdict p))
reported_history p =
    elim (search p (suc p.cycles)) [
      | inl none ↦ ap (λ v. history p (clock_of v)) (sym (verdict_none p none))
      | inr (c, l, s, none) ↦
          let z : (p.cycles - c) + c ≡ p.cycles = omega arith in
          sym (ap (history p) z)
          ∙ (history_stays p c (p.cycles - c) s
          ∙ sym (ap (λ v. history p (clock_of v)) (verdict_found p c (omega arith) none s)
          ∙ ap (history p) (clock_settled p c (state p c))))
    ]
