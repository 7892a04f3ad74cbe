-- Rounds of Assigns and Answers, the Earliest after them, and the end.
use Rattle.std.proofs.Common.{◌≡◌, refl, sym, ap, subst, ◌∙◌, ℕ, zero, suc, ◌+◌, ◌*◌, ◌^◌, ◌<◌, ◌≤◌, ◌⊎◌, inl, inr, true, false, length}
use Rattle.std.proofs.Common.{List, [], ◌∷◌, Option, Some, None, arith, mul-le-mul_right}
use Rattle.std.proofs.lemmas.Bool.{cases_Bool, cases_lt}
use Rattle.std.specs.Prelude.{IfSome}
use Rattle.flow_design.specs.declared.limits.TheConstants.{MODULES, COUNTED_OPERATIONS}
use Rattle.sim_core.specs.{Plan, ModuleState, FitsEngine, Design, IsDesign, Trace, IsHistory, known_of, all_decided, first_accesses, view}
use Rattle.sim_core.specs.{IsInside, work, IsDetermined, IsFinal, Action, Acts, ActsAll, IsAgreed, AllVerified, design, lockstep_run}
use Rattle.sim_core.specs.{NoTiming, may_time, after_timing, next_timing, timings, earliest_of, CoreView, theory_of, given, Batch, Visit}
use Rattle.sim_core.specs.{HasAnsweredLeast, IsFirstEarliest, AreUntimable, IsNextFrom, IsUntimable, TimesSome, IsTimingRound, HasMore}
use Rattle.sim_core.specs.{AreTimingsOf, StretchLeads, TimesOn, answers_among}
use Rattle.sim_core.specs.declared.visit.Visit.TheVariants.{Acted, Differs, Idle}
use Rattle.event_timing.specs.{Core.Core, Actions.Action.Run, Actions.Action.Assign, Actions.Action.Answer, Actions.Action.Earliest}
use Rattle.event_timing.proofs.ActionBound.{all_rise, most_work, never_found}
use Rattle.event_timing.proofs.{Agreement.final_closed, Deciding.determined_inside}
use Rattle.timing_bridge.proofs.{Bounded.plan_is_bounded, History.plan_is_design, History.run_is_history, Timings.none_left_at}
use Rattle.timing_bridge.proofs.Onward.{assigned_is, answered_is, idle_is, next_none, timings_none, timings_more, timings_on, timings_over}
use Rattle.timing_bridge.proofs.Onward.{earliest_found}
use Rattle.sim_core.proofs.Rounds.{to_do}
use Rattle.outcome_guard.specs.declared.guard.Guard.TheVariants as guard
use Rattle.sim_core.proofs.Rounds as rounds

-- ---- some actions of one module

module _ {S : Type 0} (d : Design S) (h : Trace S) (i : IsDesign d) (history : IsHistory d h) (limit m : ℕ) (inside : m < d.modules) where
  -- what is done there is what rounds do that stand there
  round_more : (x z y : Core S) → may_time d limit x m ≡ true → z ≡ after_timing d limit x m → (n more : ℕ)
      → timings d limit (n + more) m z ≡ timings d limit more m y → timings d limit (suc n + more) m x ≡ timings d limit more m y
  round_more x z y may is n more rest =
      ap (λ (k : ℕ). timings d limit k m x) (let e : suc n + more ≡ suc (n + more) = omega arith in e)
      ∙ timings_more d limit (n + more) m x inside may ∙ ap (timings d limit (n + more) m) (sym is) ∙ rest

  round_assigned : (x z y : Core S) → Acts d limit x (Assign m) z → (n more : ℕ)
      → timings d limit (n + more) m z ≡ timings d limit more m y → timings d limit (suc n + more) m x ≡ timings d limit more m y
  round_assigned x z y (c, may, is) n more rest =
      let (there, then) = assigned_is d limit x m c may in round_more x z y there (is ∙ sym then) n more rest

  round_answered : (x z y : Core S) → AllVerified x → Acts d limit x (Answer m) z → (n more : ℕ)
      → timings d limit (n + more) m z ≡ timings d limit more m y → timings d limit (suc n + more) m x ≡ timings d limit more m y
  round_answered x z y verified (c, may, inl (same, is)) n more rest =
      let (there, then) = answered_is d limit x m c may in round_more x z y there (is ∙ sym then) n more rest
  round_answered x z y verified (c, may, inr (other, is)) n more rest =
      absurd (other (never_found d x verified m c may.determined.at may.open_query))

  all_round : (actions : List Action) → AreTimingsOf m actions → (x y : Core S) → IsAgreed d h limit x → AllVerified x
      → ActsAll d limit x actions y → (more : ℕ) → timings d limit (length actions + more) m x ≡ timings d limit more m y
  all_round [] f x y agreed verified is more =
      ap (λ (k : ℕ). timings d limit k m x) (let e : 0 + more ≡ more = omega arith in e) ∙ ap (timings d limit more m) (sym is)
  all_round (Run k ∷ rest) f x y agreed verified acts more = absurd f
  all_round (Assign k ∷ rest) (e, f) x y agreed verified (z, act, acts) more =
      let (n, agreed', verified') = all_rise d h i history limit x agreed verified (Assign k ∷ []) z (z, act, refl) in
      round_assigned x z y (subst (λ (j : ℕ). Acts d limit x (Assign j) z) e act) (length rest) more
      (all_round rest f z y agreed' verified' acts more)
  all_round (Answer k ∷ rest) (e, f) x y agreed verified (z, act, acts) more =
      let (n, agreed', verified') = all_rise d h i history limit x agreed verified (Answer k ∷ []) z (z, act, refl) in
      round_answered x z y verified (subst (λ (j : ℕ). Acts d limit x (Answer j) z) e act) (length rest) more
      (all_round rest f z y agreed' verified' acts more)
  all_round (Earliest k ∷ rest) f x y agreed verified acts more = absurd f

-- how many they are
count_is : (m : ℕ) (actions : List Action) → AreTimingsOf m actions → length actions ≡ given actions + answers_among actions
count_is m [] f = omega arith
count_is m (Run k ∷ rest) f = absurd f
count_is m (Assign k ∷ rest) (e, f) = let more = count_is m rest f in omega arith
count_is m (Answer k ∷ rest) (e, f) = let more = count_is m rest f in omega arith
count_is m (Earliest k ∷ rest) f = absurd f

module _ (v w : CoreView) (m b a answers cycles : ℕ) (inside : m < length v.plan.design.modules)
    (agreed : IsAgreed (design v.plan) (lockstep_run v.plan) v.plan.cycles (theory_of v)) (fits : FitsEngine v.plan)
    (verified : AllVerified (theory_of v)) (ticked : a ≡ b + cycles) (few : answers ≤ cycles) where
  many : (t : TimesOn v b m answers w a) → length t.on.goes.actions ≡ cycles + answers
  many t =
      let all = count_is m t.on.goes.actions t.are in
      let one = t.on.goes.ticked in
      let other = t.answered in
      omega arith

  pub times_some : (visit : Visit) → StretchLeads visit answers v b m w a → 0 < cycles + answers
      → TimesSome v b m (cycles + answers) w a
  times_some (Acted again) t some =
      let i = plan_is_design v.plan fits in
      let history = run_is_history v.plan fits in
      subst (λ (n : ℕ). TimesSome v b m n w a) (many t) (record {
        goes = t.on;
        rounds = all_round (design v.plan) (lockstep_run v.plan) i history v.plan.cycles m inside t.on.goes.actions t.are (theory_of v)
            (theory_of w) agreed verified t.on.goes.all;
        few = (all_rise (design v.plan) (lockstep_run v.plan) i history v.plan.cycles (theory_of v) agreed verified t.on.goes.actions
            (theory_of w) t.on.goes.all).0;
      })
  times_some (Differs q) (same, ticks, other) some = absurd (omega arith)
  times_some Idle (same, ticks, idle) some = absurd (omega arith)

  pub times_none : (visit : Visit) → StretchLeads visit answers v b m w a → cycles + answers ≡ 0
      → IsUntimable v m × (w ≡ v) × (a ≡ b)
  times_none (Acted again) t none = absurd (nothing t.on.goes.actions (many t ∙ none) t.on.goes.all)
    where
      nothing : (actions : List Action) → length actions ≡ 0
          → ActsAll (design v.plan) v.plan.cycles (theory_of v) actions (theory_of w) → ⊥
      nothing [] e is = let rise = t.on.risen in let same = ap (work (design v.plan)) is in absurd (omega arith)
      nothing (one ∷ rest) e acts = absurd (omega (arith, e))
  times_none (Differs q) (same, ticks, other) none = absurd (rounds.none_differs v verified m q other)
  times_none Idle (same, ticks, idle) none =
      (idle_is (design v.plan) v.plan.cycles (theory_of v) m idle.no_assign idle.no_answer, same, ticks)

-- ---- the rounds

pub untimable_on : (v : CoreView) (from at to : ℕ) → AreUntimable v from at → AreUntimable v at to → AreUntimable v from to
untimable_on v from at to before after n l u =
    elim (cases_lt n at) [
      | inl less ↦ before n l less
      | inr more ↦ after n more u
    ]

-- and of one more
pub untimable_more : (v : CoreView) (at m : ℕ) → AreUntimable v at m → IsUntimable v m → AreUntimable v at (m + 1)
untimable_more v at m before here n l u =
    elim (cases_lt n m) [
      | inl less ↦ before n l less
      | inr more ↦ subst (IsUntimable v) (let e : m ≡ n = omega arith in e) here
    ]

-- what comes next, where none does from module `at` on
pub next_over : (v w : CoreView) → w ≡ v → (at : ℕ) → at ≤ length v.plan.design.modules
    → AreUntimable v at (length v.plan.design.modules) → (r : Option Batch) → IfSome r (λ batch. batch.owner < at)
    → IfSome r (λ batch. AreUntimable w 0 batch.owner) → IfSome r (λ batch. IsNextFrom v at batch.owner)
next_over v w same at l after None below first = tt
next_over v w same at l after (Some batch) below first =
    (omega arith, inr (after, subst (λ (u : CoreView). AreUntimable u 0 batch.owner) same first))

-- where nothing is permitted of some modules, rounds go on after them
timings_past : {S : Type 0} (d : Design S) (limit n at m : ℕ) (x : Core S) → at ≤ m → m ≤ d.modules
    → ((k : ℕ) → at ≤ k → k < m → may_time d limit x k ≡ false) → timings d limit n at x ≡ timings d limit n m x
timings_past {S} d limit n at zero x l u none = let e : at ≡ zero = omega arith in ap (λ (k : ℕ). timings d limit n k x) e
timings_past {S} d limit n at (suc m) x l u none =
    elim (cases_lt m at) [
      | inl less ↦ let e : at ≡ suc m = omega arith in ap (λ (k : ℕ). timings d limit n k x) e
      | inr more ↦
          timings_past d limit n at m x more (omega arith) (λ k p q. none k p (omega arith))
          ∙ timings_on d limit n m x (omega arith) (none m more (omega arith))
    ]

pub begun : (v : CoreView) (ticks : ℕ) → IsAgreed (design v.plan) (lockstep_run v.plan) v.plan.cycles (theory_of v) → FitsEngine v.plan
    → AllVerified (theory_of v) → IsTimingRound v v ticks ticks 0 0
begun v ticks agreed fits verified = record {
  goes = rounds.goes_same v ticks;
  agreed = agreed;
  fits = fits;
  verified = verified;
  at_most = omega arith;
  rounds = λ more. let e : 0 + more ≡ more = omega arith in ap (λ (n : ℕ). timings (design v.plan) v.plan.cycles n 0 (theory_of v)) e;
  few = omega arith;
}

module _ {first now : CoreView} {before ticks at done : ℕ} (r : IsTimingRound first now before ticks at done) where
  abbrev d : Design ModuleState
  d = design first.plan

  abbrev limit : ℕ
  limit = first.plan.cycles

  agreed_now : IsAgreed (design now.plan) (lockstep_run now.plan) now.plan.cycles (theory_of now)
  agreed_now = rounds.goes_agreed first now before ticks r.agreed r.fits r.goes

  fits_now : FitsEngine now.plan
  fits_now = subst FitsEngine (sym r.goes.plan) r.fits

  pub verified_now : AllVerified (theory_of now)
  verified_now = rounds.goes_verified first now before ticks r.agreed r.fits r.goes r.verified

  -- so many actions fit a counter
  pub few_done : done < 2 ^ 64
  few_done =
      let most = most_work d (lockstep_run first.plan) limit (theory_of now)
      (subst (λ (q : Plan). IsAgreed (design q) (lockstep_run q) q.cycles (theory_of now)) r.goes.plan agreed_now) first.plan.ops
      (plan_is_bounded first.plan r.fits) in
      let few = r.few in
      let modules = r.fits.module_count in
      let ops = r.fits.operations in
      bound (length first.plan.design.modules) first.plan.ops done _ _ modules ops few most
    where
      bound : (n o done a b : ℕ) → n ≤ MODULES → o ≤ COUNTED_OPERATIONS → done + a ≤ b → b ≤ n * (3 * o + 1) → done < 2 ^ 64
      bound n o done a b l u f m =
          let p : n * (3 * o + 1) ≤ MODULES * (3 * o + 1) = mul-le-mul_right (3 * o + 1) l in
          omega arith

  -- some actions more, of the module that comes next
  pub went : {next : CoreView} {later m count : ℕ} → IsNextFrom now at m → TimesSome now ticks m count next later
      → IsTimingRound first next before later m (done + count)
  went {next} {later} {m} {count} (inside, comes) o = record {
    goes = rounds.goes_join first now next before ticks later r.goes o.goes.goes;
    agreed = r.agreed;
    fits = r.fits;
    verified = r.verified;
    at_most = let e = ap (λ (q : Plan). length q.design.modules) o.goes.goes.plan in omega arith;
    rounds = more_rounds;
    few =
        let more = subst (λ (q : Plan). count + work (design q) (theory_of now) ≤ work (design q) (theory_of next)) r.goes.plan o.few in
        let few = r.few in
        omega arith;
  }
    where
      same_count : length now.plan.design.modules ≡ length first.plan.design.modules
      same_count = ap (λ (q : Plan). length q.design.modules) r.goes.plan

      idle : (from to : ℕ) → AreUntimable now from to → (k : ℕ) → from ≤ k → k < to → may_time d limit (theory_of now) k ≡ false
      idle from to none k l u =
          subst (λ (q : Plan). may_time (design q) q.cycles (theory_of now) k ≡ false) r.goes.plan (none k l u)

      to_next : (n : ℕ) → ((at ≤ m) × AreUntimable now at m)
          ⊎ (AreUntimable now at (length now.plan.design.modules) × AreUntimable now 0 m)
          → timings d limit n at (theory_of now) ≡ timings d limit n m (theory_of now)
      to_next n (inl (l, none)) =
          let c = same_count in timings_past d limit n at m (theory_of now) l (omega arith) (idle at m none)
      to_next n (inr (none, before_m)) =
          let c = same_count in
          let u = r.at_most in
          timings_past d limit n at (length first.plan.design.modules) (theory_of now) (omega arith) (omega arith)
          (λ k p q. idle at _ none k p (omega arith))
          ∙ timings_over d limit n (theory_of now)
          ∙ timings_past d limit n 0 m (theory_of now) (omega arith) (omega arith) (idle 0 m before_m)

      more_rounds : (more : ℕ) → timings d limit (done + count + more) 0 (theory_of first) ≡ timings d limit more m (theory_of next)
      more_rounds more =
          let sum : done + count + more ≡ done + (count + more) = omega arith in
          ap (λ (n : ℕ). timings d limit n 0 (theory_of first)) sum ∙ r.rounds (count + more) ∙ to_next (count + more) comes
          ∙ subst (λ (q : Plan). timings (design q) q.cycles (count + more) m (theory_of now)
          ≡ timings (design q) q.cycles more m (theory_of next)) r.goes.plan (o.rounds more)

  -- where none comes next, the rounds are over
  module _ (none : AreUntimable now 0 (length now.plan.design.modules)) where
    none_next : next_timing d limit (theory_of now) at ≡ None
    none_next =
        let c = ap (λ (q : Plan). length q.design.modules) r.goes.plan in
        let u = r.at_most in
        next_none d limit at (theory_of now) (omega arith) (λ m l.
        subst (λ (q : Plan). may_time (design q) q.cycles (theory_of now) m ≡ false) r.goes.plan (none m (omega arith) (omega arith)))

    pub all_rounds : timings d limit done 0 (theory_of first) ≡ Some (theory_of now)
    all_rounds =
        let sum : done ≡ done + 0 = omega arith in
        ap (λ (n : ℕ). timings d limit n 0 (theory_of first)) sum ∙ r.rounds 0 ∙ timings_none d limit at (theory_of now) none_next

    pub none_timed : NoTiming (design now.plan) now.plan.cycles (theory_of now)
    none_timed =
        none_left_at (design now.plan) (lockstep_run now.plan) (plan_is_design now.plan fits_now) (run_is_history now.plan fits_now)
        now.plan.cycles (theory_of now) agreed_now at
        (subst (λ (q : Plan). next_timing (design q) q.cycles (theory_of now) at ≡ None) (sym r.goes.plan) none_next)

  -- something that was done is a turn less
  pub went_on : {next : CoreView} {later m count : ℕ} → TimesSome now ticks m count next later → to_do next < to_do now
  went_on {next} {later} {m} {count} o =
      let agreed = rounds.goes_agreed now next ticks later agreed_now fits_now o.goes.goes in
      let less = rounds.to_do_less now next ticks later o.goes agreed (subst FitsEngine (sym o.goes.goes.plan) fits_now) in
      omega arith

-- ---- the Earliest after them

module _ (v w : CoreView) (agreed : IsAgreed (design v.plan) (lockstep_run v.plan) v.plan.cycles (theory_of v)) where
  pub least_is : (m : ℕ) → HasAnsweredLeast (Some (m, guard.Same)) v w → IsFirstEarliest v m
      → earliest_of (design v.plan) v.plan.cycles (theory_of v) ≡ Some (theory_of w)
  least_is m ((c, may, inl (same, is)), changed) first =
      let inside = agreed.marks.inside in
      let at = may.open_step.determined.at in
      let below = determined_inside (design v.plan) (theory_of v) inside m c at in
      earliest_found (design v.plan) v.plan.cycles (theory_of v) inside m c below may first ∙ ap Some (sym is)
  least_is m ((c, may, inr (other, is)), changed) first = absurd (changed is)

  pub least_verified : (m : ℕ) → FitsEngine v.plan → w.plan ≡ v.plan → w.lent ≡ v.lent → AllVerified (theory_of v)
      → HasAnsweredLeast (Some (m, guard.Same)) v w → AllVerified (theory_of w)
  least_verified m fits plan lent verified done =
      let goes = rounds.was_least v w m 0 plan lent agreed done in
      rounds.goes_verified v w 0 0 agreed fits goes.goes verified

-- ---- the end

module _ (v : CoreView) (inside : IsInside (design v.plan) (theory_of v)) where
  abbrev x : Core ModuleState
  x = theory_of v

  -- where no module has more, nothing is permitted
  pub final_of : ((m : ℕ) → m < length v.plan.design.modules → HasMore v m → ⊥) → IsFinal (design v.plan) v.plan.cycles x
  final_of none = record {
    quiet = record {
      no_run = λ n may. none n may.inside (inl may);
      no_assign = λ n c may. stopped n c may.determined;
      no_answer = λ n c may. stopped n c may.determined;
    };
    no_earliest = λ n c may. stopped n c may.open_step.determined;
  }
    where
      stopped : (n c : ℕ) → IsDetermined (design v.plan) v.plan.cycles x n c → ⊥
      stopped n c at =
          none n (determined_inside (design v.plan) x inside n c at.at) (inr (c, at))

-- and where one has, something is
pub not_final : (v : CoreView) (m : ℕ) → HasMore v m → IsFinal (design v.plan) v.plan.cycles (theory_of v) → ⊥
not_final v m (inl may) f = f.quiet.no_run m may
not_final v m (inr (c, at)) f =
    elim (cases_Bool ((theory_of v).verified m ((theory_of v).timed m))) [
      | inl t ↦ f.quiet.no_assign m c (record { determined = at; verified = t })
      | inr u ↦ elim (cases_Bool (all_decided (known_of (design v.plan) (view (design v.plan) (theory_of v)) m)
          (first_accesses (view (design v.plan) (theory_of v)) m))) [
            | inl t ↦ f.quiet.no_answer m c (record { determined = at; open_query = u; decided = t })
            | inr t ↦ final_closed (design v.plan) v.plan.cycles (theory_of v) f (suc c) c (omega arith) m
                (record { determined = at; open_query = u; undecided = t })
          ]
    ]
