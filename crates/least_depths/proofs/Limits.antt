-- A plan that stops at a clock has each end by that clock, and no other.
use Rattle.std.proofs.Common.{◌≡◌, ℕ, zero, suc, ◌++◌, ◌<◌, ◌≤◌, Bool, false, true≢false, cond, max, [], refl, sym, ◌∙◌, ap, arith, inl}
use Rattle.std.proofs.Common.{inr}
use Rattle.std.proofs.lemmas.Bool.{cases_Bool, cases_lt, lt-ltb, le-ltb, leb-true, false_from_ne_true}
use Rattle.std.specs.{Prelude.nat_le, List.list_all, List.list_any}
use Rattle.least_depths.specs.{Plan, ClockState, reply, is_spent, NoneBefore, Moment, moves, steps_in, clock_step, opening, moment}
use Rattle.least_depths.specs.{next_moment, state, is_settled, settled_verdict, verdict, IsDoneBy, is_done_by, limit_for, limited}
use Rattle.flow_design.specs.declared.report.Verdict.TheVariants.{Done, Deadlock, Ops}
use Rattle.lockstep_defs.proofs.Found.{verdict_found, verdict_none}
use Rattle.depth_order.proofs.First.{IsFirst, first_among, verdict_first}
use Rattle.least_depths.proofs.Depths.{done_by_test}

-- ---- clocks go on as before

abbrev stopping : ℕ → Plan → Plan
stopping n p = record p { cycles = n }

module _ (p : Plan) (n : ℕ) where
  same_step : (c : ℕ) (st : ClockState) → clock_step (stopping n p) c st ≡ clock_step p c st
  unfolding clock_step steps_in reply moves
  same_step c st = refl

  same_steps : (c : ℕ) (st : ClockState) → steps_in (stopping n p) c st ≡ steps_in p c st
  unfolding steps_in reply moves
  same_steps c st = refl

  same_opening : opening (stopping n p) ≡ opening p
  unfolding opening
  same_opening = refl

  same_settled : (c : ℕ) (st : ClockState) → is_settled (stopping n p) c st ≡ is_settled p c st
  unfolding is_settled moves
  same_settled c st = refl

  same_moment : (c : ℕ) → moment (stopping n p) c ≡ moment p c
  unfolding moment
  same_moment zero = ap (λ (st : ClockState). record { state = st; history = [] }) same_opening
  same_moment (suc c) =
      ap (next_moment (stopping n p) c) (same_moment c)
      ∙ (λ i. record {
        state = same_step c (moment p c).state i;
        history = (moment p c).history ++ same_steps c (moment p c).state i;
      })

  same_state : (c : ℕ) → state (stopping n p) c ≡ state p c
  same_state c = ap (λ (m : Moment). m.state) (same_moment c)

  settled_too : (c : ℕ) → is_settled (stopping n p) c (state (stopping n p) c) ≡ is_settled p c (state p c)
  settled_too c = same_settled c (state (stopping n p) c) ∙ ap (is_settled p c) (same_state c)

  -- the first settled clock is the same, where it comes by the limit
  early : n ≤ p.cycles → (c : ℕ) → IsFirst p (suc n) c → verdict (stopping n p) ≡ verdict p
  early low c f =
      let l = f.within in
      verdict_found (stopping n p) c (omega arith) (λ b before. settled_too b ∙ f.none b before) (settled_too c ∙ f.settled)
      ∙ (ap (settled_verdict (stopping n p) c) (same_state c) ∙ sym (verdict_found p c (omega arith) f.none f.settled))

  -- where it does not, the plan is not done by then
  late : NoneBefore p (suc n) → (clock : ℕ) → clock ≤ n → is_done_by clock (verdict p) ≡ false
  late none clock low = elim (first_among p (suc p.cycles)) [
    | inl (c, f) ↦ rw (verdict_first p c f) (by_end c (state p c) (elim (cases_lt n c) [
      | inl above ↦ omega arith
      | inr below ↦ absurd (true≢false (sym f.settled ∙ none c (omega arith)))
    ]))
    | inr all ↦ ap (is_done_by clock) (verdict_none p all)
  ]
    where
      by_end : (c : ℕ) (st : ClockState) → clock < c → is_done_by clock (settled_verdict p c st) ≡ false
      by_end c st above = elim (cases_Bool (list_all (λ s. s.ended) st.modules)) [
        | inl e ↦ ap (λ (b : Bool). is_done_by clock (cond b (Done c) (cond (list_any (is_spent p.ops) st.modules) (Ops c) (Deadlock c)))) e
            ∙ false_from_ne_true (nat_le c clock) (λ t. let l = leb-true c clock t in absurd (omega arith))
        | inr e ↦ ap (λ (b : Bool). is_done_by clock (cond b (Done c) (cond (list_any (is_spent p.ops) st.modules) (Ops c) (Deadlock c)))) e
            ∙ elim (cases_Bool (list_any (is_spent p.ops) st.modules)) [
              | inl s ↦ ap (λ (b : Bool). is_done_by clock (cond b (Ops c) (Deadlock c))) s
              | inr s ↦ ap (λ (b : Bool). is_done_by clock (cond b (Ops c) (Deadlock c))) s
            ]
      ]

-- ---- the limit for a clock

-- a limit that is the clock or later, and no later than the plan's own; or the plan's own
early_limit : (clock cycles : ℕ) → clock < cycles → limit_for clock cycles ≡ max clock 1
early_limit clock cycles l = ap (λ (b : Bool). cond b (max clock 1) cycles) (lt-ltb clock cycles l)

own_limit : (clock cycles : ℕ) → cycles ≤ clock → limit_for clock cycles ≡ cycles
own_limit clock cycles l = ap (λ (b : Bool). cond b (max clock 1) cycles) (le-ltb clock cycles l)

module _ (p : Plan) (clock : ℕ) where
  own_plan : p.cycles ≤ clock → limited clock p ≡ p
  own_plan l = ap (λ (n : ℕ). stopping n p) (own_limit clock p.cycles l)

  -- it is done by the clock where the plan is
  pub same_test : is_done_by clock (verdict (limited clock p)) ≡ is_done_by clock (verdict p)
  same_test = elim (cases_lt clock p.cycles) [
    | inr l ↦ ap (λ (q : Plan). is_done_by clock (verdict q)) (own_plan l)
    | inl l ↦
        let n = max clock 1 in
        let at_most : n ≤ p.cycles = omega arith in
        let at_least : clock ≤ n = omega arith in
        ap (λ (k : ℕ). is_done_by clock (verdict (stopping k p))) (early_limit clock p.cycles l)
        ∙ elim (first_among p (suc n)) [
          | inl (c, f) ↦ ap (is_done_by clock) (early p n at_most c f)
          | inr none ↦
              ap (is_done_by clock) (verdict_none (stopping n p) (λ b before. settled_too p n b ∙ none b before))
              ∙ sym (late p n none clock at_least)
        ]
  ]

  -- an end by the clock is the same
  pub same_verdict : IsDoneBy clock (verdict p) → verdict (limited clock p) ≡ verdict p
  same_verdict done = elim (cases_lt clock p.cycles) [
    | inr l ↦ ap verdict (own_plan l)
    | inl l ↦
        let n = max clock 1 in
        let at_most : n ≤ p.cycles = omega arith in
        let at_least : clock ≤ n = omega arith in
        ap (λ (k : ℕ). verdict (stopping k p)) (early_limit clock p.cycles l)
        ∙ elim (first_among p (suc n)) [
          | inl (c, f) ↦ early p n at_most c f
          | inr none ↦ absurd (true≢false (sym (done_by_test clock (verdict p) done) ∙ late p n none clock at_least))
        ]
  ]
