-- Assigns and Answers, Earliest and Runs: what is computed are permitted actions.
use Rattle.std.proofs.Common.{◌≡◌, ℕ, zero, suc, ◌<◌, ◌⊎◌, Bool, true, false, cond, ◌||◌, inl, inr, refl, sym, ap, ◌∙◌, subst, arith}
use Rattle.std.proofs.Common.{Option, Some, None, [], ◌∷◌}
use Rattle.std.proofs.lemmas.Bool.{cases_Bool, cases_lt, cond-true, cond-false, both_ways, or_cases}
use Rattle.std.specs.{Option.is_none, Prelude.unwrap_or}
use Rattle.timing_bridge.specs.{Design, IsDesign, Trace, IsHistory, candidate, view, IsAgreed, AllVerified, Acts, ActsAll, MayAssign}
use Rattle.timing_bridge.specs.{MayAnswer, MayEarliest, runs, after_run, after_assign, after_answer, IsInside, may_run, may_assign}
use Rattle.timing_bridge.specs.{may_answer, may_earliest, NoTiming, IsTimedTo, IsEarliestTo, cycle_found, may_time, after_timing}
use Rattle.timing_bridge.specs.{next_timing, timings, first_earliest, earliest_of, runs_of, then_on}
use Rattle.event_timing.specs.{Core.Core, Actions.Action.Assign, Actions.Action.Answer}
use Rattle.event_timing.proofs.{Agreement.all_agree, ActionBound.all_rise, ActionBound.never_found, Answering.first_emitted}
use Rattle.event_timing.proofs.Deciding.{run_decided, assign_decided, answer_decided, earliest_decided}
use Rattle.timing_bridge.proofs.Rounds.{from_passes, from_first, round_passes, round_none, none_round}

-- ---- options

pub none_is : {A : Type 0} → (o : Option A) → is_none o ≡ true → o ≡ None
none_is {A} None e = refl
none_is {A} (Some a) e = cc

pub then_some : {A B : Type 0} → (o : Option A) (f : A → Option B) (b : B) → then_on o f ≡ Some b → (a : A) × (o ≡ Some a) × (f a ≡ Some b)
then_some {A} {B} None f b e = cc
then_some {A} {B} (Some a) f b e = (a, refl, e)

-- ---- one Assign or Answer

module _ {S : Type 0} (d : Design S) (limit : ℕ) (x : Core S) (m : ℕ) where
  pub found_is : (c : ℕ) → candidate d (view d x) m ≡ Some c → cycle_found d x m ≡ c
  found_is c e = ap (λ (o : Option ℕ). unwrap_or o 0) e

  pub timing_acts : AllVerified x → may_time d limit x m ≡ true
      → Acts d limit x (Assign m) (after_timing d limit x m) ⊎ Acts d limit x (Answer m) (after_timing d limit x m)
  unfolding may_time after_timing
  timing_acts v e =
      elim (cases_Bool (may_assign d limit x m)) [
        | inl t ↦
            let (c, may) = (assign_decided d limit x m).0 t in
            inl (c, may, cond-true (may_assign d limit x m) _ _ t ∙ ap (after_assign x m) (found_is c may.determined.at))
        | inr f ↦
            elim (or_cases (may_assign d limit x m) (may_answer d limit x m) e) [
              | inl t ↦ absurd (both_ways _ f t)
              | inr t ↦
                  let (c, may) = (answer_decided d limit x m).0 t in
                  inr (
                    c,
                    may,
                    inl (
                      never_found d x v m c may.determined.at may.open_query,
                      cond-false (may_assign d limit x m) _ _ f ∙ ap (after_answer d x m) (found_is c may.determined.at),
                    ),
                  )
            ]
      ]

  pub no_timing_at : may_time d limit x m ≡ false → (c : ℕ) → (MayAssign d limit x m c → ⊥) × (MayAnswer d limit x m c → ⊥)
  unfolding may_time
  no_timing_at e c = (
    λ may. both_ways _ e (or_left (may_assign d limit x m) (may_answer d limit x m) ((assign_decided d limit x m).1 (c, may))),
    λ may. both_ways _ e (or_right (may_assign d limit x m) (may_answer d limit x m) ((answer_decided d limit x m).1 (c, may))),
  )
    where
      or_left : (a b : Bool) → a ≡ true → (a || b) ≡ true
      or_left true b e = refl
      or_left false b e = cc

      or_right : (a b : Bool) → b ≡ true → (a || b) ≡ true
      or_right true b e = refl
      or_right false b e = e

-- ---- so many

module _ {S : Type 0} (d : Design S) (h : Trace S) (i : IsDesign d) (y : IsHistory d h) (limit : ℕ) where
  pub none_left_at : (x : Core S) → IsAgreed d h limit x → (at : ℕ) → next_timing d limit x at ≡ None → NoTiming d limit x
  unfolding next_timing
  none_left_at x g at e = record {
    no_assign = λ m c may.
        (no_timing_at d limit x m (round_none (may_time d limit x) d.modules at e m (below m c may.determined.at)) c).0 may;
    no_answer = λ m c may.
        (no_timing_at d limit x m (round_none (may_time d limit x) d.modules at e m (below m c may.determined.at)) c).1 may;
  }
    where
      below : (m c : ℕ) → candidate d (view d x) m ≡ Some c → m < d.modules
      below m c at =
          elim (cases_lt m d.modules) [
            | inl l ↦ l
            | inr l ↦ absurd (omega (arith, first_emitted d x m c at, g.marks.inside m l))
          ]

  next_passes : (x : Core S) (at m : ℕ) → next_timing d limit x at ≡ Some m → may_time d limit x m ≡ true
  unfolding next_timing
  next_passes x at m e = round_passes (may_time d limit x) d.modules at m e

  pub timings_are : (n at : ℕ) (x z : Core S) → IsAgreed d h limit x → AllVerified x → timings d limit n at x ≡ Some z
      → IsTimedTo d limit x n z
  timings_are zero at x z g v e = nothing (next_timing d limit x at) refl e
    where
      nothing : (o : Option ℕ) → next_timing d limit x at ≡ o → cond (is_none o) (Some x) None ≡ Some z → IsTimedTo d limit x 0 z
      nothing None s q =
          let same : z ≡ x = cc in
          record {
            actions = [];
            timings = tt;
            count = refl;
            acts = same;
            none_left = subst (NoTiming d limit) (sym same) (none_left_at x g at s);
          }
      nothing (Some m) s q = cc
  timings_are (suc n) at x z g v e =
      let (m, s, q) = then_some (next_timing d limit x at) (λ m. timings d limit n m (after_timing d limit x m)) z e in
      elim (timing_acts d limit x m v (next_passes x at m s)) [
        | inl a ↦
            let all : ActsAll d limit x (Assign m ∷ []) (after_timing d limit x m) = (after_timing d limit x m, a, refl) in
            let r = timings_are n m (after_timing d limit x m) z (all_agree d h i y limit x g (Assign m ∷ []) _ all)
            (all_rise d h i y limit x g v (Assign m ∷ []) _ all).2 q in
            record {
              actions = Assign m ∷ r.actions;
              timings = r.timings;
              count = ap suc r.count;
              acts = (after_timing d limit x m, a, r.acts);
              none_left = r.none_left;
            }
        | inr a ↦
            let all : ActsAll d limit x (Answer m ∷ []) (after_timing d limit x m) = (after_timing d limit x m, a, refl) in
            let r = timings_are n m (after_timing d limit x m) z (all_agree d h i y limit x g (Answer m ∷ []) _ all)
            (all_rise d h i y limit x g v (Answer m ∷ []) _ all).2 q in
            record {
              actions = Answer m ∷ r.actions;
              timings = r.timings;
              count = ap suc r.count;
              acts = (after_timing d limit x m, a, r.acts);
              none_left = r.none_left;
            }
      ]

  -- ---- one Earliest

  pub earliest_is : (x z : Core S) → IsAgreed d h limit x → AllVerified x → earliest_of d limit x ≡ Some z → IsEarliestTo d limit x z
  unfolding first_earliest
  earliest_is x z g v e =
      let (m, s, q) = then_some (first_earliest d limit x) (λ m. Some (after_answer d x m (cycle_found d x m))) z e in
      let (c, may) = (earliest_decided d limit x g.marks.inside m).0 (from_passes (may_earliest d limit x) 0 d.modules m s) in
      let same : z ≡ after_answer d x m (cycle_found d x m) = cc in
      record {
        owner = m;
        cycle = c;
        may = may;
        first = λ k l step.
            both_ways _ (from_first (may_earliest d limit x) 0 d.modules m s k (omega arith) l)
            ((earliest_decided d limit x g.marks.inside k).1 (c, record { open_step = step; quiet = may.quiet; least = may.least }));
        acts = (
          z,
          (
            c,
            may,
            inl (
              never_found d x v m c may.open_step.determined.at may.open_step.open_query,
              same ∙ ap (after_answer d x m) (found_is d limit x m c may.open_step.determined.at),
            ),
          ),
          refl,
        );
      }

-- where there is an Earliest nothing else is permitted, and so no round finds an action
module _ {S : Type 0} (d : Design S) (limit : ℕ) (x : Core S) (inside : IsInside d x) where
  nothing_timed : (m c : ℕ) → MayEarliest d limit x m c → (k : ℕ) → may_time d limit x k ≡ false
  unfolding may_time
  nothing_timed m c may k =
      elim (cases_Bool (may_assign d limit x k || may_answer d limit x k)) [
        | inr f ↦ f
        | inl t ↦
            elim (or_cases (may_assign d limit x k) (may_answer d limit x k) t) [
              | inl a ↦ let (e, b) = (assign_decided d limit x k).0 a in absurd (may.quiet.no_assign k e b)
              | inr a ↦ let (e, b) = (answer_decided d limit x k).0 a in absurd (may.quiet.no_answer k e b)
            ]
      ]

  pub earliest_alone : (n : ℕ) (z : Core S) → earliest_of d limit x ≡ Some z → timings d limit (suc n) 0 x ≡ None
  unfolding first_earliest next_timing
  earliest_alone n z e =
      let (m, s, q) = then_some (first_earliest d limit x) (λ m. Some (after_answer d x m (cycle_found d x m))) z e in
      let (c, may) = (earliest_decided d limit x inside m).0 (from_passes (may_earliest d limit x) 0 d.modules m s) in
      ap (λ (o : Option ℕ). then_on o (λ m. timings d limit n m (after_timing d limit x m)))
      (none_round (may_time d limit x) d.modules 0 (omega arith) (λ k l. nothing_timed m c may k))

-- ---- Runs

pub acts_are_runs : {S : Type 0} → (d : Design S) (limit m n : ℕ) (x z : Core S) → ActsAll d limit x (runs n m) z
    → runs_of d m n x ≡ Some z
acts_are_runs {S} d limit m zero x z e = ap Some (sym e)
acts_are_runs {S} d limit m (suc n) x z (u, (may, e), t) =
    cond-true (may_run d x m) (runs_of d m n (after_run d x m)) None ((run_decided d x m).1 may)
    ∙ acts_are_runs d limit m n (after_run d x m) z (subst (λ (q : Core S). ActsAll d limit q (runs n m) z) e t)

pub runs_are_acts : {S : Type 0} → (d : Design S) (limit m n : ℕ) (x z : Core S) → runs_of d m n x ≡ Some z
    → ActsAll d limit x (runs n m) z
runs_are_acts {S} d limit m zero x z e = some_same x z e
  where
    some_same : (a b : Core S) → Some a ≡ Some b → b ≡ a
    some_same a b e = cc
runs_are_acts {S} d limit m (suc n) x z e =
    elim (cases_Bool (may_run d x m)) [
      | inl r ↦ (
        after_run d x m,
        ((run_decided d x m).0 r, refl),
        runs_are_acts d limit m n (after_run d x m) z (sym (cond-true (may_run d x m) (runs_of d m n (after_run d x m)) None r) ∙ e),
      )
      | inr r ↦ let q = sym (cond-false (may_run d x m) (runs_of d m n (after_run d x m)) None r) ∙ e in cc
    ]
