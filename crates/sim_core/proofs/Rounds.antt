-- Going round the modules as long as something is permitted.
use Rattle.std.proofs.Common.{◌≡◌, refl, sym, ap, subst, ◌∙◌, ℕ, suc, ◌+◌, ◌-◌, ◌*◌, ◌<◌, ◌≤◌, ◌⊎◌, inl, inr, true, false, Some, get_or}
use Rattle.std.proofs.Common.{List, [], ◌∷◌, ◌++◌, length, arith, mul-le-mul_right}
use Rattle.std.proofs.lemmas.Bool.{both_ways, cases_lt}
use Rattle.std.specs.Prelude.{slice_get}
use Rattle.sim_core.specs.{Plan, FitsEngine, Query, Design, view, candidate, IsAgreed, AllVerified, work, Action, Acts, ActsAll, MayRun}
use Rattle.sim_core.specs.{IsQuiet, after_run, design, lockstep_run, CursorView, IsDifferent, IsFoundOther, CoreView, theory_of, Visit}
use Rattle.sim_core.specs.{IsStill, IsEarliestOther, HasTurned, HasAnsweredLeast, given, Goes, GoesOn, VisitLeads, HasVisited, AreOwn}
use Rattle.sim_core.specs.{IsGoingRound}
use Rattle.sim_core.specs.declared.visit.Visit.TheVariants.{Acted, Differs, Idle}
use Rattle.event_timing.specs.{Core.Core, Actions.Action.Assign, Actions.Action.Answer, Actions.Action.Earliest}
use Rattle.event_timing.proofs.{Agreement.all_agree, Deciding.determined_inside, Assigning.put_same, Running.run_cases}
use Rattle.event_timing.proofs.ActionBound.{more_work, most_work, never_found, all_rise}
use Rattle.timing_bridge.proofs.{Bounded.plan_is_bounded, History.plan_is_design, History.run_is_history}
use Rattle.engine_view.specs.declared.turn.Timing.TheVariants as turn
use Rattle.outcome_guard.specs.declared.guard.Guard.TheVariants as guard

-- ---- each action makes another core

pub run_changes : {S : Type 0} (d : Design S) (x y : Core S) (m : ℕ) → MayRun d x m → y ≡ after_run d x m → y ≡ x → ⊥
run_changes {S} d x y m may is same =
    run_cases d x m (λ (z : Core S). z ≡ x → ⊥)
    (λ over e. both_ways _ may.lives (sym (ap (λ (z : Core S). z.over m) e) ∙ put_same x.over m true))
    (λ over e. let n = sym (ap (λ (z : Core S). z.emitted m) e) ∙ put_same x.emitted m (suc (x.emitted m)) in absurd (omega arith))
    (sym is ∙ same)

pub assign_changes : {S : Type 0} (d : Design S) (limit : ℕ) (x y : Core S) (m : ℕ) → Acts d limit x (Assign m) y → y ≡ x → ⊥
assign_changes {S} d limit x y m (c, may, is) e =
    let n : y.timed m ≡ suc (x.timed m) = ap (λ (q : Core S). q.timed m) is ∙ put_same x.timed m (suc (x.timed m)) in
    let same : y.timed m ≡ x.timed m = ap (λ (q : Core S). q.timed m) e in
    absurd (omega arith)

-- ---- a visit

module _ (v w : CoreView) (m before : ℕ) (plan : w.plan ≡ v.plan) (lent : w.lent ≡ v.lent)
    (agreed : IsAgreed (design v.plan) (lockstep_run v.plan) v.plan.cycles (theory_of v)) where
  unfoldable pub one : (a : Action) → Acts (design v.plan) v.plan.cycles (theory_of v) a (theory_of w)
      → (theory_of w ≡ theory_of v → ⊥) → (after : ℕ)
      → after ≡ before + given (a ∷ []) → GoesOn v before w after
  one a acts changed after ticked = record {
    goes = record { actions = a ∷ []; all = (theory_of w, acts, refl); ticked = ticked; plan = plan; lent = lent };
    risen = elim (more_work (design v.plan) (lockstep_run v.plan) v.plan.cycles (theory_of v) agreed a (theory_of w) acts) [
      | inl e ↦ absurd (changed e)
      | inr u ↦ u
    ];
  }

  unfoldable pub was_assigned : (c after : ℕ) → HasTurned (turn.Assigned c) v m w → after ≡ before + 1 → GoesOn v before w after
  was_assigned c after acts ticked =
      one (Assign m) acts (assign_changes (design v.plan) v.plan.cycles (theory_of v) (theory_of w) m acts) after ticked

  unfoldable pub was_answered : (c after : ℕ) → HasTurned (turn.Answered c) v m w → after ≡ before + 0 → GoesOn v before w after
  was_answered c after (acts, changed, next) ticked = one (Answer m) acts changed after ticked

  pub was_least : HasAnsweredLeast (Some (m, guard.Same)) v w → GoesOn v before w before
  was_least (acts, changed) = one (Earliest m) acts changed before (omega arith)

-- ---- lists of actions

pub acts_join : {S : Type 0} → (d : Design S) (limit : ℕ) (x y z : Core S) (front later : List Action) → ActsAll d limit x front y
    → ActsAll d limit y later z → ActsAll d limit x (front ++ later) z
acts_join {S} d limit x y z [] later e b = rw (← e) b
acts_join {S} d limit x y z (a ∷ more) later (w, t, r) b = (w, t, acts_join d limit w y z more later r b)

pub given_join : (front later : List Action) → given (front ++ later) ≡ given front + given later
given_join [] later = omega arith
given_join (a ∷ rest) later = let e = given_join rest later in grind arith

unfoldable pub goes_join : (first now next : CoreView) (before ticks later : ℕ) → Goes first before now ticks → Goes now ticks next later
    → Goes first before next later
goes_join first now next before ticks later g o = record {
  actions = g.actions ++ o.actions;
  all = acts_join (design first.plan) first.plan.cycles (theory_of first) (theory_of now) (theory_of next) g.actions o.actions g.all
      (subst (λ (q : Plan). ActsAll (design q) q.cycles (theory_of now) o.actions (theory_of next)) g.plan o.all);
  ticked = let e = given_join g.actions o.actions in let a = g.ticked in let b = o.ticked in omega arith;
  plan = o.plan ∙ g.plan;
  lent = o.lent ∙ g.lent;
}

unfoldable pub on_join : (first now next : CoreView) (before ticks later : ℕ) → GoesOn first before now ticks → GoesOn now ticks next later
    → GoesOn first before next later
on_join first now next before ticks later g o = record {
  goes = goes_join first now next before ticks later g.goes o.goes;
  risen =
      let more : work (design first.plan) (theory_of now) < work (design first.plan) (theory_of next) =
      subst (λ (q : Plan). work (design q) (theory_of now) < work (design q) (theory_of next)) g.goes.plan o.risen in
      let some = g.risen in
      omega arith;
}

-- after what was done, whatever the timing was
pub timed_after : (u v w : CoreView) (x b a m : ℕ) (visit : Visit) → GoesOn u x v b → VisitLeads visit v b m w a → GoesOn u x w a
timed_after u v w x b a m (Acted bits) g t = on_join u v w x b a g t
timed_after u v w x b a m (Differs q) g (e, t, o) = rw (e, t) g
timed_after u v w x b a m Idle g (e, t, o) = rw (e, t) g

-- where no Run is permitted, a timing is a visit
pub timed_is_visit : (v w : CoreView) (b a m : ℕ) (visit : Visit) → (MayRun (design v.plan) (theory_of v) m → ⊥)
    → VisitLeads visit v b m w a → HasVisited visit v b m w a
timed_is_visit v w b a m (Acted bits) f t = t
timed_is_visit v w b a m (Differs q) f t = t
timed_is_visit v w b a m Idle f (e, t, o) = (e, t, record { no_run = f; idle = o })

pub goes_same : (v : CoreView) (before : ℕ) → Goes v before v before
goes_same v before = record { actions = []; all = refl; ticked = omega arith; plan = refl; lent = refl }

-- ---- what stays by actions

module _ (v w : CoreView) (before after : ℕ) (agreed : IsAgreed (design v.plan) (lockstep_run v.plan) v.plan.cycles (theory_of v))
    (fits : FitsEngine v.plan) (g : Goes v before w after) where
  pub goes_agreed : IsAgreed (design w.plan) (lockstep_run w.plan) w.plan.cycles (theory_of w)
  goes_agreed =
      subst (λ (q : Plan). IsAgreed (design q) (lockstep_run q) q.cycles (theory_of w)) (sym g.plan)
      (all_agree (design v.plan) (lockstep_run v.plan) (plan_is_design v.plan fits) (run_is_history v.plan fits)
      v.plan.cycles (theory_of v) agreed g.actions (theory_of w) g.all)

  pub goes_verified : AllVerified (theory_of v) → AllVerified (theory_of w)
  goes_verified f =
      (all_rise (design v.plan) (lockstep_run v.plan) (plan_is_design v.plan fits) (run_is_history v.plan fits) v.plan.cycles
      (theory_of v) agreed f g.actions (theory_of w) g.all).2

-- where no outcome is assumed, none is found to be another
module _ (v : CoreView) (f : AllVerified (theory_of v)) where
  none_other : (m c : ℕ) (q : Query) → IsFoundOther (design v.plan) v.held m c q
      → candidate (design v.plan) (view (design v.plan) (theory_of v)) m ≡ Some c
      → (theory_of v).verified m ((theory_of v).timed m) ≡ false → ⊥
  none_other m c q o e u =
      o.other.differs (ap (λ fs. slice_get fs o.other.place) (never_found (design v.plan) (theory_of v) f m c e u o.recorded))

  pub none_differs : (m : ℕ) (q : Query) → IsDifferent (design v.plan) v.plan.cycles v.held m q → ⊥
  none_differs m q o = none_other m o.cycle q o.found o.may.determined.at o.may.open_query

  pub no_least_differs : (m : ℕ) (q : Query) → IsEarliestOther v m q → ⊥
  no_least_differs m q o = none_other m o.cycle q o.found o.may.open_step.determined.at o.may.open_step.open_query

-- ---- a round

pub begun : {v : CoreView} {ticks : ℕ} {cursor : CursorView} → IsAgreed (design v.plan) (lockstep_run v.plan) v.plan.cycles (theory_of v)
    → FitsEngine v.plan → AreOwn v → cursor.count ≡ length v.plan.design.modules → IsGoingRound v v ticks ticks cursor 0
begun {v} {ticks} {cursor} agreed fits own counted = record {
  goes = goes_same v ticks;
  agreed = agreed;
  fits = fits;
  own = own;
  counted = counted;
  still = λ n l. absurd (omega (arith, l));
}

module _ {first now : CoreView} {before ticks : ℕ} {cursor : CursorView} {from : ℕ} (r : IsGoingRound first now before ticks cursor from)
  where
    pub agreed_now : IsAgreed (design now.plan) (lockstep_run now.plan) now.plan.cycles (theory_of now)
    agreed_now = goes_agreed first now before ticks r.agreed r.fits r.goes

    pub fits_now : FitsEngine now.plan
    fits_now = subst FitsEngine (sym r.goes.plan) r.fits

    -- something was done
    pub went : {next : CoreView} {later : ℕ} {cursor' : CursorView} → GoesOn now ticks next later → cursor'.count ≡ cursor.count
        → IsGoingRound first next before later cursor' 0
    went {next} {later} {cursor'} o count = record {
      goes = goes_join first now next before ticks later r.goes o.goes;
      agreed = r.agreed;
      fits = r.fits;
      own = λ m l.
          ap (λ bs. get_or bs m true) o.goes.lent ∙ r.own m (let e = ap (λ (q : Plan). length q.design.modules) o.goes.plan in omega arith);
      counted = count ∙ r.counted ∙ ap (λ (q : Plan). length q.design.modules) (sym o.goes.plan);
      still = λ n l. absurd (omega (arith, l));
    }

    -- nothing was to be done at the module whose turn it was
    pub passed : {next : CoreView} {later m to : ℕ} {cursor' : CursorView} → next ≡ now → later ≡ ticks → IsStill now m
        → cursor'.count ≡ cursor.count → ((n : ℕ) → n < to → (n < from) ⊎ ((n ≡ m) ⊎ IsStill now n))
        → IsGoingRound first next before later cursor' to
    passed {next} {later} {m} {to} {cursor'} same ticked none count more =
        rw (same, ticked) (record {
          goes = r.goes;
          agreed = r.agreed;
          fits = r.fits;
          own = r.own;
          counted = count ∙ r.counted;
          still = λ n l.
              elim (more n l) [
                | inl u ↦ r.still n u
                | inr (inl e) ↦ subst (IsStill now) (sym e) none
                | inr (inr s) ↦ s
              ];
        })

    -- where nothing is left from there on, nothing is but an Earliest
    pub all_quiet : ((n : ℕ) → from ≤ n → n < length now.plan.design.modules → IsStill now n)
        → IsQuiet (design now.plan) now.plan.cycles (theory_of now)
    all_quiet rest = record {
      no_run = λ n may. (still n may.inside).no_run may;
      no_assign = λ n c may. (still n (there n c may.determined.at)).idle.no_assign c may;
      no_answer = λ n c may. (still n (there n c may.determined.at)).idle.no_answer c may;
    }
      where
        still : (n : ℕ) → n < length now.plan.design.modules → IsStill now n
        still n u = elim (cases_lt n from) [
          | inl l ↦ r.still n l
          | inr l ↦ rest n l u
        ]

        there : (n c : ℕ) → candidate (design now.plan) (view (design now.plan) (theory_of now)) n ≡ Some c
            → n < length now.plan.design.modules
        there n c e = determined_inside (design now.plan) (theory_of now) agreed_now.marks.inside n c e

    -- where no outcome is assumed, none is found to be another
    pub never_differs : AllVerified (theory_of first) → (m : ℕ) (q : Query) → IsDifferent (design now.plan) now.plan.cycles now.held m q → ⊥
    never_differs f = none_differs now (goes_verified first now before ticks r.agreed r.fits r.goes f)

    pub never_least : AllVerified (theory_of first) → (m : ℕ) (q : Query) → IsEarliestOther now m q → ⊥
    never_least f = no_least_differs now (goes_verified first now before ticks r.agreed r.fits r.goes f)

-- ---- it ends

-- more than what can still be done
abbrev pub to_do : CoreView → ℕ
to_do v = length v.plan.design.modules * (3 * v.plan.ops + 1) - work (design v.plan) (theory_of v)

pub to_do_less : (now next : CoreView) (ticks later : ℕ) → GoesOn now ticks next later
    → IsAgreed (design next.plan) (lockstep_run next.plan) next.plan.cycles (theory_of next) → FitsEngine next.plan
    → to_do next + 1 ≤ to_do now
to_do_less now next ticks later o agreed fits =
    let most = most_work (design next.plan) (lockstep_run next.plan) next.plan.cycles (theory_of next) agreed next.plan.ops
    (plan_is_bounded next.plan fits) in
    let plan = o.goes.plan in
    let rise = o.risen in grind arith

-- something that was done is a turn less
pub went_on : {first now next : CoreView} {before ticks later : ℕ} {cursor : CursorView} {from : ℕ}
    → IsGoingRound first now before ticks cursor from → GoesOn now ticks next later → to_do next < to_do now
went_on {first} {now} {next} {before} {ticks} {later} {cursor} {from} r o =
    let fits = fits_now r in
    let agreed = goes_agreed now next ticks later (agreed_now r) fits o.goes in
    let less = to_do_less now next ticks later o agreed (subst FitsEngine (sym o.goes.plan) fits) in
    omega arith

-- fewer turns are fewer visits, wherever modules are looked for
pub visits_fall : (fewer many count count' from to : ℕ) → count' ≡ count → fewer < many
    → fewer * (count' + 1) + (count' - to) < many * (count + 1) + (count - from)
visits_fall fewer many count count' from to same l =
    let more : (fewer + 1) * (count + 1) ≤ many * (count + 1) = mul-le-mul_right (count + 1) (omega arith) in
    rw same (omega arith)

-- and no more turns are fewer visits where they are looked for further on
pub visits_pass : (fewer many count count' from to : ℕ) → count' ≡ count → fewer ≤ many → from < to → from < count
    → fewer * (count' + 1) + (count' - to) < many * (count + 1) + (count - from)
visits_pass fewer many count count' from to same l on below =
    let more : fewer * (count + 1) ≤ many * (count + 1) = mul-le-mul_right (count + 1) l in
    rw same (omega arith)
