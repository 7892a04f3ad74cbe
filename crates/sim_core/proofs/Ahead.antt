-- A burst on a mail is a list of permitted Runs.
use Rattle.std.proofs.Common.{◌≡◌, refl, sym, ap, ap₂, subst, ◌∙◌, ℕ, suc, ◌+◌, ◌<◌, Bool, true, false, not, cond, ◌||◌, List, [], ◌∷◌}
use Rattle.std.proofs.Common.{length, map, drop, Some, slice_get, inl, inr, arith}
use Rattle.std.proofs.lemmas.Bool.{cases_Bool, cond-true, cond-false}
use Rattle.std.proofs.lemmas.Option.{slice_get_within, get_or_from_slice_get, slice_get-get_or}
use Rattle.sim_core.specs.{Access, Step as StepOf, Plan, Advance, ModuleState, Reply, Request, FitsEngine, requests_of, is_over, is_spent}
use Rattle.sim_core.specs.{Own, access_of, done_in, next_rest, accesses_at, mark_at, StandsAt, is_step, ready, takes_in, Begins}
use Rattle.sim_core.specs.{AreOwnMarks, Grows, core_accesses, core_tally, core_values, values_there, has_query, bare_replies, runs, ActsAll}
use Rattle.sim_core.specs.{MayRun, after_run, emit_over, newest, design, queries_in, Mail, Task, values_on, next_value, replies_in}
use Rattle.sim_core.specs.{taken_after, IsLeft, IsWaiting, IsStillGoing, IsAfterStep, IsPast, RunsOn, IsRunOf, rest_after}
use Rattle.sim_core.specs.{requested_outcomes, values_to_come, steps_committed, IsTaskLeft}
use Rattle.flow_word.specs.declared.access.Side.TheVariants.{Pop}
use Rattle.flow_design.specs.declared.state.Advance.TheVariants.{Step, Ended, Spent}
use Rattle.event_timing.specs.Core.{Core}
use Rattle.event_timing.proofs.{Beside.grows_self, Beside.grows_trans, Assigning.put_same, Assigning.put_at_same, Growing.settled_all}
use Rattle.event_timing.proofs.{Growing.tally_grow, OwnRuns.tally_more, Values.begins_self, Values.begins_get, Values.begins_length}
use Rattle.event_timing.proofs.Running.{emit, emit_grows, newest_own, run_marks}
use Rattle.sim_core.proofs.{Beginnings.get_drop, Beginnings.begins_places, Resting.rest_is, Staying.fed_is, Staying.after_same}
use Rattle.sim_core.proofs.Committed.{committed_waits, committed_goes}
use Rattle.sim_core.proofs.Mailed.{AreFound, read_is, no_query, no_outcomes_of}

-- ---- where a burst has come to, beside a core

-- what is left of the mail's values are the next ones of the core, after the module's first n steps
pub record IsWindow (p : Plan) (z : Core ModuleState) (m n : ℕ) (mail : Mail) (taken : ℕ → ℕ) : Type 0 where
  pub values : (c i v : ℕ) → slice_get (values_on mail c) (taken c + i) ≡ Some v
      → slice_get (core_values (design p) z c) (core_tally (design p) z m Pop c n + i) ≡ Some v

-- it goes on to a rest whose mark is the module's next
pub record Goes (p : Plan) (z : Core ModuleState) (m : ℕ) (mail : Mail) (o : Own) (told : ℕ) (taken : ℕ → ℕ) : Type 0 where
  pub may : MayRun (design p) z m
  pub stands : o ≡ rest_after p z m (z.emitted m)
  pub outcomes : drop told mail.outcomes ≡ []
  pub window : IsWindow p z m (z.emitted m) mail taken

-- it waits at the module's newest step
pub record Waits (p : Plan) (z : Core ModuleState) (m : ℕ) (mail : Mail) (o : Own) (told : ℕ) (taken : ℕ → ℕ) : Type 0 where
  pub at : ℕ
  pub newest : suc at ≡ z.emitted m
  pub inside : m < length p.design.modules
  pub lives : z.over m ≡ false
  pub stands : o ≡ rest_after p z m at
  pub outcomes : drop told mail.outcomes ≡ cond (z.answered m at) (requested_outcomes (requests_of p (m, z.state m at)) (z.flags m at)) []
  pub plain : has_query (core_accesses (design p) z m at) ≡ false → z.answered m at ≡ true
  pub window : IsWindow p z m at mail taken

-- ---- from a step to the next rest

module _ (p : Plan) (f : FitsEngine p) (z : Core ModuleState) (b : AreOwnMarks (design p) z) (m : ℕ) (mail : Mail) (o : Own) (told : ℕ)
    (taken : ℕ → ℕ) (w : Waits p z m mail o told taken) (qs : List Reply) (e : replies_in mail told taken (accesses_at p m o) ≡ Some qs)
  where
    abbrev k : ℕ
    k = w.at

    abbrev rs : List Request
    rs = requests_of p (m, z.state m k)

    below : k < z.emitted m
    below = let n = w.newest in omega arith

    asked : accesses_at p m o ≡ map (access_of (done_in o.steps)) rs
    asked =
        let g = rest_is p f z b m w.inside k k (omega arith) (let l = below in omega arith) in
        let state : o.state ≡ z.state m k = ap (λ (q : Own). q.state) w.stands ∙ (g.state ∙ sym (b.own_step m k below)) in
        ap (λ (s : ModuleState). map (access_of (done_in o.steps)) (requests_of p (m, s))) state

    read : replies_in mail told taken (map (access_of (done_in o.steps)) rs) ≡ Some qs
    read = sym (ap (replies_in mail told taken) asked) ∙ e

    answered : z.answered m k ≡ true
    answered =
        elim (cases_Bool (z.answered m k)) [
          | inl a ↦ a
          | inr a ↦ w.plain (no_query mail told taken (done_in o.steps) rs qs
              (w.outcomes ∙ cond-false (z.answered m k) (requested_outcomes rs (z.flags m k)) [] a) read)
        ]

    found : AreFound mail told taken (done_in o.steps) (core_values (design p) z) (λ c. core_tally (design p) z m Pop c k) rs
        (z.flags m k) qs
    found =
        read_is mail taken (done_in o.steps) (core_values (design p) z) (λ c. core_tally (design p) z m Pop c k) window told rs
        (z.flags m k) (b.fit m k below)
        (w.outcomes ∙ cond-true (z.answered m k) (requested_outcomes rs (z.flags m k)) [] answered) qs read
      where
        window : (c v : ℕ) → next_value mail taken c ≡ Some v → slice_get (core_values (design p) z c)
            (core_tally (design p) z m Pop c k) ≡ Some v
        window c v y =
            let z1 : taken c + 0 ≡ taken c = omega arith in
            let z2 : core_tally (design p) z m Pop c k + 0 ≡ core_tally (design p) z m Pop c k = omega arith in
            sym (ap (slice_get (core_values (design p) z c)) z2) ∙ w.window.values c 0 v (ap (slice_get (values_on mail c)) z1 ∙ y)

    pub goes_on : Goes p z m mail (next_rest p m o qs) (told + queries_in (accesses_at p m o)) (taken_after taken (accesses_at p m o) qs)
    goes_on = record {
      may = record {
        inside = w.inside;
        lives = w.lives;
        answered = λ j y. subst (λ (i : ℕ). z.answered m i ≡ true) (let n = w.newest in omega arith) answered;
        there = λ j y. subst (λ (i : ℕ). values_there (design p) z m i ≡ true) (let n = w.newest in omega arith) found.there;
      };
      stands = ap₂ (next_rest p m) w.stands found.are ∙ (sym (fed_is p z m k) ∙ ap (rest_after p z m) w.newest);
      outcomes = ap (λ (xs : List Access). drop (told + queries_in xs) mail.outcomes) asked ∙ found.all_told;
      window = subst (λ (n : ℕ). IsWindow p z m n mail (taken_after taken (accesses_at p m o) qs)) w.newest (record {
        values = λ c i v y.
            let count = ap (λ (xs : List Access). taken_after taken xs qs c) asked ∙ found.counts taken c in
            let more = tally_more (core_accesses (design p) z m) (λ j. bare_replies (z.flags m j)) Pop c k in
            let t = takes_in Pop c (core_accesses (design p) z m k) (bare_replies (z.flags m k)) in
            let from : taken_after taken (accesses_at p m o) qs c + i ≡ taken c + (t + i) =
            omega arith in
            let to : core_tally (design p) z m Pop c (suc k) + i ≡ core_tally (design p) z m Pop c k + (t + i) = omega arith in
            ap (slice_get (core_values (design p) z c)) to ∙ w.window.values c (t + i) v (sym (ap (slice_get (values_on mail c)) from) ∙ y);
      });
    }

-- ---- the mark of a rest

mark_is : (a b : Bool) (n : ℕ) (s : StepOf) → is_step (cond a (Ended n) (cond b (Spent n) (Step s))) ≡ not (a || b)
mark_is a b n s = grind arith

pub over_of_mark : (p : Plan) (m : ℕ) (o : Own) → is_step (mark_at p m o) ≡ not (is_over p.ops o.state)
unfolding is_over
over_of_mark p m o = mark_is o.state.ended (is_spent p.ops o.state) o.since _

over_grows : (p : Plan) (z : Core ModuleState) (m : ℕ) → Grows (design p) z (emit_over z m)
over_grows p z m = record {
  emitted_up = λ n. omega arith;
  state_same = λ n k l. refl;
  wait_same = λ n k l. refl;
  flags_same = λ n k l v. refl;
  answered_up = λ n k l v. v;
  values_up = λ c. begins_self (core_values (design p) z c);
}

pub get_begins : (xs ys : List ℕ) (i v : ℕ) → Begins xs ys → slice_get ys i ≡ Some v → slice_get xs i ≡ Some v
get_begins xs ys i v g e =
    let l = slice_get_within ys i v e in
    let l' = begins_length xs ys g in
    slice_get-get_or xs i 0 (omega arith) ∙ ap Some (begins_get xs ys i g l ∙ get_or_from_slice_get ys i v 0 e)

module _ (p : Plan) (f : FitsEngine p) (z : Core ModuleState) (b : AreOwnMarks (design p) z) (m : ℕ) (mail : Mail) (o : Own) (told : ℕ)
    (taken : ℕ → ℕ) (g : Goes p z m mail o told taken) where
  -- the core after the Run
  abbrev after : Core ModuleState
  after = after_run (design p) z m

  pub over_is : is_step (mark_at p m o) ≡ not ((design p).is_over m (ready (design p) m (newest (design p) z m)))
  over_is =
      let d = design p in
      let r = rest_is p f z b m g.may.inside (z.emitted m) (z.emitted m) (omega arith) (omega arith) in
      let state : o.state ≡ ready d m (newest d z m) =
      ap (λ (q : Own). q.state) g.stands ∙ (r.state ∙ ap (ready d m) (sym (newest_own d z b m (z.emitted m) (omega arith)))) in
      over_of_mark p m o ∙ ap (λ (s : ModuleState). not (is_over p.ops s)) state

  pub over_after : is_step (mark_at p m o) ≡ false → after ≡ emit_over z m
  over_after e = let same = over_is in grind arith

  pub step_after : is_step (mark_at p m o) ≡ true → after ≡ emit (design p) z m
  step_after e = let same = over_is in grind arith

  -- the step that the Run emits
  step_there : Waits p (emit (design p) z m) m mail o told taken
  step_there =
      let d = design p in
      let n = z.emitted m in
      let y = emit d z m in
      let grow = emit_grows d z m in
      let settled = settled_all d z b m g.may.answered g.may.there in
      let s = ready d m (newest d z m) in
      let answered : y.answered m n ≡ not (has_query (d.accesses m s)) = put_at_same z.answered m n (not (has_query (d.accesses m s))) in
      let state : y.state m n ≡ s = put_at_same z.state m n s in
      record {
        at = n;
        newest = sym (put_same z.emitted m (suc n));
        inside = g.may.inside;
        lives = g.may.lives;
        stands = g.stands ∙ sym (after_same p z y grow m n settled);
        outcomes = g.outcomes ∙ sym (none y n (answered ∙ ap (λ (q : ModuleState). not (has_query (d.accesses m q))) (sym state)));
        plain = λ e. answered ∙ (ap (λ (q : ModuleState). not (has_query (d.accesses m q))) (sym state) ∙ ap not e);
        window = record {
          values = λ c i v e.
              let same = tally_grow d z y grow m n (λ k l. settled.emitted k l) (λ k l. settled.answered k l) Pop c in
              ap (λ (t : ℕ). slice_get (core_values d y c) (t + i)) same
              ∙ get_begins (core_values d y c) (core_values d z c) (core_tally d z m Pop c n + i) v (grow.values_up c)
              (g.window.values c i v e);
        };
      }
    where
      none : (y : Core ModuleState) (n : ℕ) → y.answered m n ≡ not (has_query (core_accesses (design p) y m n))
          → cond (y.answered m n) (requested_outcomes (requests_of p (m, y.state m n)) (y.flags m n)) [] ≡ []
      none y n e =
          elim (cases_Bool (has_query (core_accesses (design p) y m n))) [
            | inl k ↦ cond-false (y.answered m n) (requested_outcomes (requests_of p (m, y.state m n)) (y.flags m n)) [] (e ∙ ap not k)
            | inr k ↦ cond-true (y.answered m n) (requested_outcomes (requests_of p (m, y.state m n)) (y.flags m n)) [] (e ∙ ap not k)
                ∙ no_outcomes_of (requests_of p (m, y.state m n)) (y.flags m n) k
          ]

  pub waits_after : is_step (mark_at p m o) ≡ true → Waits p after m mail o told taken
  waits_after e = rw (step_after e) step_there

  pub run_grows : Grows (design p) z after
  run_grows =
      elim (cases_Bool (is_step (mark_at p m o))) [
        | inl e ↦ rw (step_after e) (emit_grows (design p) z m)
        | inr e ↦ rw (over_after e) (over_grows p z m)
      ]

-- ---- where a run stands

-- what is left of a mail are the next values of the core
left_values : (p : Plan) (z : Core ModuleState) (m n : ℕ) (mail left : Mail) (taken : ℕ → ℕ) → IsWindow p z m n mail taken
    → IsLeft mail taken left → (k c : ℕ) → k ≡ n → Begins (values_to_come p z m k c) (values_on left c)
left_values p z m n mail left taken w l k c e =
    subst (λ (i : ℕ). Begins (values_to_come p z m i c) (values_on left c)) (sym e)
    (begins_places (values_to_come p z m n c) (values_on left c) (λ i v g.
    get_drop (core_values (design p) z c) (core_tally (design p) z m Pop c n) i
    ∙ w.values c i v (sym (get_drop (values_on mail c) (taken c) i) ∙ (ap (λ (xs : List ℕ). slice_get xs i)
    (sym (l.values c)) ∙ g))))

going_run : (p : Plan) (z : Core ModuleState) (m : ℕ) (mail : Mail) (o : Own) (told : ℕ) (taken : ℕ → ℕ) (last : Task)
    → Goes p z m mail o told taken → IsStillGoing p m mail last o taken → IsRunOf p z m last.run
going_run p z m mail o told taken last g s = record {
  waiting = λ w. let e = sym w ∙ s.goes in cc;
  going = λ w. (λ k e. (g.may.answered k e, g.may.there k e), subst (λ (q : Own). StandsAt p m q last.run) g.stands s.stands);
  over = λ e. s.goes;
}

pub going_stands : (p : Plan) (z : Core ModuleState) (m : ℕ) (mail : Mail) (o : Own) (told : ℕ) (taken : ℕ → ℕ) (last : Task)
    → Goes p z m mail o told taken → IsStillGoing p m mail last o taken → IsTaskLeft p z m last
going_stands p z m mail o told taken last g s = record {
  run = going_run p z m mail o told taken last g s;
  values = λ c. left_values p z m (z.emitted m) mail last.mail taken g.window s.left (steps_committed z m last.run) c
      (committed_goes z m last.run s.goes);
}

pub waiting_stands : (p : Plan) (z : Core ModuleState) (m : ℕ) (mail : Mail) (o : Own) (told : ℕ) (taken : ℕ → ℕ) (short : Bool)
    (last : Task) → Waits p z m mail o told taken → IsWaiting p m mail short last o told taken → IsTaskLeft p z m last
waiting_stands p z m mail o told taken short last w s = record {
  run = record {
    waiting = λ y. (w.at, w.newest, subst (λ (q : Own). StandsAt p m q last.run) w.stands s.stands);
    going = λ y. let e = sym y ∙ s.waits in cc;
    over = λ e. let y = sym e ∙ w.lives in cc;
  };
  values = λ c. left_values p z m w.at mail last.mail taken w.window s.left (steps_committed z m last.run) c
      (committed_waits z m last.run s.waits ∙ (let n = w.newest in omega arith));
}

pub over_stands : (p : Plan) (z : Core ModuleState) (m : ℕ) (mail : Mail) (o : Own) (told : ℕ) (taken : ℕ → ℕ) (last : Task)
    → Goes p z m mail o told taken → IsStillGoing p m mail last o taken → IsTaskLeft p (emit_over z m) m last
over_stands p z m mail o told taken last g s =
    let r = going_run p z m mail o told taken last g s in
    record {
      run = record {
        waiting = λ w. let e = sym w ∙ s.goes in cc;
        going = λ w. (λ k e. (g.may.answered k e, g.may.there k e), (r.going w).1);
        over = λ e. s.goes;
      };
      values = (going_stands p z m mail o told taken last g s).values;
    }

-- ---- bursts

-- so many Runs are permitted, and lead to a core beside which the run stands, with what is left of its mail
pub record Ran (p : Plan) (z : Core ModuleState) (m n : ℕ) (last : Task) : Type 0 where
  pub core : Core ModuleState
  pub acts : ActsAll (design p) p.cycles z (runs n m) core
  pub grows : Grows (design p) z core
  pub stands : IsTaskLeft p core m last

-- one Run more, before the others
ran_more : (p : Plan) (z : Core ModuleState) (m n : ℕ) (last : Task) → MayRun (design p) z m
    → Grows (design p) z (after_run (design p) z m) → Ran p (after_run (design p) z m) m n last → Ran p z m (suc n) last
ran_more p z m n last may g r = record {
  core = r.core;
  acts = (after_run (design p) z m, (may, refl), r.acts);
  grows = grows_trans (design p) z (after_run (design p) z m) r.core g r.grows;
  stands = r.stands;
}

pub ran_none : (p : Plan) (z : Core ModuleState) (m : ℕ) (last : Task) → IsTaskLeft p z m last → Ran p z m 0 last
ran_none p z m last s = record { core = z; acts = refl; grows = grows_self (design p) z; stands = s }

pub run_on : (p : Plan) → FitsEngine p → (z : Core ModuleState) → AreOwnMarks (design p) z
    → (m : ℕ) (mail : Mail) (short : Bool) (last : Task) (o : Own) (told : ℕ) (taken : ℕ → ℕ) (marks : List Advance)
    → Goes p z m mail o told taken → RunsOn p m mail short last o told taken marks → Ran p z m (length marks) last
run_on p f z b m mail short last o told taken [] g (s, e) = ran_none p z m last (going_stands p z m mail o told taken last g s)
run_on p f z b m mail short last o told taken (mark ∷ more) g (e, sound, past) =
    let y = after_run (design p) z m in
    ran_more p z m (length more) last g.may (run_grows p f z b m mail o told taken g)
    (elim (cases_Bool (is_step mark)) [
      | inl s ↦ onwards (λ o' told' taken' g' next. run_on p f y (run_marks (design p) z b m g.may) m mail short last o' told' taken' more g'
          next) (waits_after p f z b m mail o told taken g (ap is_step (sym e) ∙ s))
          (subst (λ (c : Bool). IsPast c p m mail short last o told taken more
          (λ o' told' taken'. RunsOn p m mail short last o' told' taken' more)) s past)
      | inr s ↦ ended (over_after p f z b m mail o told taken g (ap is_step (sym e) ∙ s))
          (subst (λ (c : Bool). IsPast c p m mail short last o told taken more
          (λ o' told' taken'. RunsOn p m mail short last o' told' taken' more)) s past)
    ])
  where
    ended : after_run (design p) z m ≡ emit_over z m → (more ≡ []) × IsStillGoing p m mail last o taken
        → Ran p (after_run (design p) z m) m (length more) last
    ended e (n, s) = rw (e, n) (ran_none p (emit_over z m) m last (over_stands p z m mail o told taken last g s))

    onwards : ((o' : Own) (told' : ℕ) (taken' : ℕ → ℕ) → Goes p (after_run (design p) z m) m mail o' told' taken'
        → RunsOn p m mail short last o' told' taken' more → Ran p (after_run (design p) z m) m (length more) last)
        → Waits p (after_run (design p) z m) m mail o told taken → IsAfterStep p m mail short last o told taken more
        (λ o' told' taken'. RunsOn p m mail short last o' told' taken' more)
        → Ran p (after_run (design p) z m) m (length more) last
    onwards again w (inl (n, s)) =
        rw n (ran_none p (after_run (design p) z m) m last (waiting_stands p (after_run (design p) z m) m mail o told taken short last w s))
    onwards again w (inr (qs, (r, next))) =
        again (next_rest p m o qs) (told + queries_in (accesses_at p m o)) (taken_after taken (accesses_at p m o) qs)
        (goes_on p f (after_run (design p) z m) (run_marks (design p) z b m g.may) m mail o told taken w qs r) next
