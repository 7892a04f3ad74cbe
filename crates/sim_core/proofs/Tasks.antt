-- A task of a core stays a task of it while others act; its burst is a list of permitted Runs, and has a mark where memory was there.
use Rattle.std.proofs.Common.{◌≡◌, refl, sym, ap, subst, ◌∙◌, ℕ, ◌+◌, ◌-◌, ◌<◌, Bool, true, false, not, cond, ltb, ◌&&◌, ◌||◌, List, []}
use Rattle.std.proofs.Common.{◌∷◌, length, map, drop, get_or, Some, slice_get, inl, inr, arith}
use Rattle.std.proofs.{lemmas.Bool.Decides.nat_tests, lemmas.Option.slice_get-get_or}
use Rattle.std.proofs.lemmas.Bool.{cases_Bool, cond-true, cond-false, lt-ltb, le-ltb, cases_lt, cases_eq, and_parts, ltb-true}
use Rattle.std.specs.List.{AllByRecursion}
use Rattle.sim_core.specs.{Side, same_side, side_of, is_taking, Plan, Advance, ModuleState, Reply, Request, FitsEngine, requests_of, Own}
use Rattle.sim_core.specs.{access_of, StandsAtPort, done_in, next_rest, accesses_at, waits, Each, Begins, AreOwnMarks, Grows, GrowsBeside}
use Rattle.sim_core.specs.{core_tally, core_values, all_below, design, seen_request, queries_in, Mail, Task, Burst, values_on, next_value}
use Rattle.sim_core.specs.{replies_in, taken_after, none_taken, task_left, RunsOn, IsBurst, IsBurstFrom, rest_after, requested_outcomes}
use Rattle.sim_core.specs.{outcomes_at, values_to_come, steps_committed, rest_of, IsMailFor, IsTaskFor, IsTaskOf}
use Rattle.flow_word.specs.declared.access.Side.TheVariants.{Pop}
use Rattle.event_timing.specs.Core.{Core}
use Rattle.event_timing.proofs.Growing.{settled_all, settled_less, tally_grow}
use Rattle.event_timing.proofs.{RunningAhead.stays, Values.begins_self, Values.begins_trans}
use Rattle.timing_bridge.proofs.{History.plan_is_design, Requests.stand}
use Rattle.sim_core.proofs.Mailed.{pops_one, HasValues, all_found}
use Rattle.sim_core.proofs.Ahead.{IsWindow, Goes, Waits, Ran, run_on, goes_on, get_begins, ran_none, waiting_stands}
use Rattle.sim_core.proofs.{Resting.rest_is, Beginnings.get_drop, Beginnings.begins_drop, Staying.run_stays}
use Rattle.sim_core.proofs.Committed.{committed_waits, committed_goes, committed_below}

-- ---- lists

-- ---- the task of a core

-- all of the mail is some of it
pub task_for : (p : Plan) (x : Core ModuleState) (m : ℕ) (task : Task) → IsTaskOf p x m task → IsTaskFor p x m task
task_for p x m task t = record {
  may = t.may;
  run = t.run;
  mail = record {
    outcomes = t.outcomes;
    values = λ c.
        elim (cases_eq ((design p).owner Pop c) m) [
          | inl e ↦ mine c e
          | inr e ↦ rw (t.others c e) (values_to_come p x m (steps_committed x m task.run) c, refl)
        ];
  };
}
  where
    mine : (c : ℕ) → (design p).owner Pop c ≡ m → Begins (values_to_come p x m (steps_committed x m task.run) c) (values_on task.mail c)
    mine c e =
        let all = values_to_come p x m (steps_committed x m task.run) c in
        elim (cases_lt c (length p.design.channels)) [
          | inl l ↦ rw (t.popped c l e) (begins_self all)
          | inr l ↦ rw (t.outside c l) (all, refl)
        ]

-- it stays one while others act
pub task_stays : (p : Plan) (x z : Core ModuleState) → AreOwnMarks (design p) x → (m : ℕ) → GrowsBeside (design p) x z m
    → (task : Task) → IsTaskFor p x m task → IsTaskFor p z m task
task_stays p x z b m beside task t =
    let d = design p in
    let g = beside.grows in
    let same = beside.emitted in
    let over = beside.over in
    let n = steps_committed x m task.run in
    let n_is : steps_committed z m task.run ≡ n = ap (λ (e : ℕ). cond (waits task.run) (e - 1) e) same in
    let settled = settled_less d x m (x.emitted m) n (committed_below x m task.run) (settled_all d x b m t.may.answered t.may.there) in
    record {
      may = stays d x z b g m same over t.may;
      run = run_stays p x z b m beside task.run t.run;
      mail = subst (λ (k : ℕ). IsMailFor p z m k task.mail) (sym n_is) (record {
        outcomes = t.mail.outcomes ∙ sym (outcomes_same n);
        values = λ c.
            let (more, e) = g.values_up c in
            let tally = tally_grow d x z g m n settled.emitted settled.answered Pop c in
            subst (λ (k : ℕ). Begins (drop k (core_values d z c)) (values_on task.mail c)) (sym tally)
            (begins_trans (drop (core_tally d x m Pop c n) (core_values d z c)) (values_to_come p x m n c) (values_on task.mail c)
            (begins_drop (core_tally d x m Pop c n) (core_values d z c) (core_values d x c) more e) (t.mail.values c));
      });
    }
  where
    g : Grows (design p) x z
    g = beside.grows

    same : z.emitted m ≡ x.emitted m
    same = beside.emitted

    outcomes_same : (k : ℕ) → outcomes_at p z m k ≡ outcomes_at p x m k
    outcomes_same k =
        elim (cases_lt k (x.emitted m)) [
          | inl l ↦
              let states = g.state_same m k l in
              let flags = g.flags_same m k l (answered k l) in grind (arith, nat_tests)
          | inr l ↦ grind (arith, nat_tests)
        ]
      where
        answered : (j : ℕ) → j < x.emitted m → x.answered m j ≡ true
        answered j l = (settled_all (design p) x b m t.may.answered t.may.there).answered j l

-- ---- where its burst begins

pub window_first : (p : Plan) (x : Core ModuleState) (m n : ℕ) (mail : Mail) → IsMailFor p x m n mail
    → IsWindow p x m n mail none_taken
window_first p x m n mail k = record {
  values = λ c i v e.
      let z : none_taken c + i ≡ i = omega arith in
      sym (get_drop (core_values (design p) x c) (core_tally (design p) x m Pop c n) i)
      ∙ get_begins (values_to_come p x m n c) (values_on mail c) i v (k.values c) (sym (ap (slice_get (values_on mail c)) z) ∙ e);
}

pub waits_first : (p : Plan) (x : Core ModuleState) (m : ℕ) (task : Task) → IsTaskFor p x m task → waits task.run ≡ true
    → Waits p x m task.mail (rest_of p x m task) 0 none_taken
waits_first p x m task t w =
    let (k, e, stands) = t.run.waiting w in
    let n : steps_committed x m task.run ≡ k = committed_waits x m task.run w ∙ (omega arith) in
    let answered = t.may.answered k e in
    let outs : task.mail.outcomes ≡ requested_outcomes (requests_of p (m, x.state m k)) (x.flags m k) =
    t.mail.outcomes ∙ (ap (outcomes_at p x m) n ∙ cond-true (ltb k (x.emitted m))
    (requested_outcomes (requests_of p (m, x.state m k)) (x.flags m k)) [] (lt-ltb k (x.emitted m) (omega arith))) in
    record {
      at = k;
      newest = e;
      inside = t.may.inside;
      lives = t.may.lives;
      stands = ap (rest_after p x m) n;
      outcomes = outs ∙ sym (cond-true (x.answered m k) (requested_outcomes (requests_of p (m, x.state m k)) (x.flags m k)) [] answered);
      plain = λ y. answered;
      window = window_first p x m k task.mail (subst (λ (j : ℕ). IsMailFor p x m j task.mail) n t.mail);
    }

pub goes_first : (p : Plan) (x : Core ModuleState) (m : ℕ) (task : Task) → IsTaskFor p x m task → waits task.run ≡ false
    → Goes p x m task.mail (rest_of p x m task) 0 none_taken
goes_first p x m task t w =
    let n : steps_committed x m task.run ≡ x.emitted m = committed_goes x m task.run w in
    record {
      may = t.may;
      stands = ap (rest_after p x m) n;
      outcomes = t.mail.outcomes ∙ (ap (outcomes_at p x m) n ∙ cond-false (ltb (x.emitted m) (x.emitted m))
          (requested_outcomes (requests_of p (m, x.state m (x.emitted m))) (x.flags m (x.emitted m))) []
          (le-ltb (x.emitted m) (x.emitted m) (omega arith)));
      window = window_first p x m (x.emitted m) task.mail (subst (λ (j : ℕ). IsMailFor p x m j task.mail) n t.mail);
    }

-- ---- a burst

pub burst_runs : (p : Plan) → FitsEngine p → (x : Core ModuleState) → AreOwnMarks (design p) x → (m : ℕ) (task : Task) (burst : Burst)
    → IsTaskFor p x m task → IsBurst p m (rest_of p x m task) task burst
    → Ran p x m (length burst.emitted) (task_left burst)
burst_runs p f x b m task burst t i =
    elim (cases_Bool (waits task.run)) [
      | inl w ↦ from_step (waits_first p x m task t w) (subst (λ (c : Bool). IsBurstFrom c p m (rest_of p x m task) task.mail burst) w i)
      | inr w ↦ run_on p f x b m task.mail burst.short (task_left burst) (rest_of p x m task) 0 none_taken burst.emitted
          (goes_first p x m task t w) (subst (λ (c : Bool). IsBurstFrom c p m (rest_of p x m task) task.mail burst) w i)
    ]
  where
    from_step : Waits p x m task.mail (rest_of p x m task) 0 none_taken
        → IsBurstFrom true p m (rest_of p x m task) task.mail burst → Ran p x m (length burst.emitted) (task_left burst)
    from_step w (inl (n, s)) =
        rw n (ran_none p x m (task_left burst) (waiting_stands p x m task.mail (rest_of p x m task) 0 none_taken burst.short
        (task_left burst) w s))
    from_step w (inr (qs, (e, next))) =
        run_on p f x b m task.mail burst.short (task_left burst) (next_rest p m (rest_of p x m task) qs)
        (0 + queries_in (accesses_at p m (rest_of p x m task))) (taken_after none_taken
        (accesses_at p m (rest_of p x m task)) qs) burst.emitted
        (goes_on p f x b m task.mail (rest_of p x m task) 0 none_taken w qs e) next

-- ---- it has a mark where memory was there

-- each value that the step takes is in the mail
values_there_in : (p : Plan) (x : Core ModuleState) (m k : ℕ) (mail : Mail) (taken : ℕ → ℕ) (t : ℕ → ℕ) (rs : List Request)
    (bs : List Bool) → Each (λ a. (design p).owner a.side a.channel ≡ m) (map seen_request rs)
    → all_below (λ (c : ℕ). length (core_values (design p) x c)) t (map seen_request rs) bs ≡ true
    → AllByRecursion (StandsAtPort p m) rs
    → ((c : ℕ) → c < length p.design.channels → (design p).owner Pop c ≡ m → t c < length (core_values (design p) x c)
    → (v : ℕ) × (next_value mail taken c ≡ Some v))
    → HasValues mail taken rs bs
values_there_in p x m k mail taken t [] bs o e s h = tt
values_there_in p x m k mail taken t (r ∷ rs) [] o e s h = tt
values_there_in p x m k mail taken t (r ∷ rs) (b ∷ bs) (o, os) e (s, ss) h =
    let (e1, e2) = and_parts (not (pops_one r.kind b) || ltb (t r.channel) (length (core_values (design p) x r.channel)))
    (all_below (λ (c : ℕ). length (core_values (design p) x c)) t (map seen_request rs) bs) e in (
      λ one.
          let l = ltb-true (t r.channel) (length (core_values (design p) x r.channel))
          (sym (ap (λ (z : Bool). not z || ltb (t r.channel) (length (core_values (design p) x r.channel))) one) ∙ e1) in
          h r.channel s.in_range
          (subst (λ (side : Side). (design p).owner side r.channel ≡ m) (pops_side (is_taking r.kind) (side_of r.kind) b one) o)
          l,
      values_there_in p x m k mail taken t rs bs os e2 ss h,
    )
  where
    pops_side : (a : Bool) (s : Side) (c : Bool) → (a && (same_side s Pop && c)) ≡ true → s ≡ Pop
    pops_side a s c e = grind arith

-- all replies to the step that waits are in the mail of a task
pub task_answers : (p : Plan) → FitsEngine p → (x : Core ModuleState) → AreOwnMarks (design p) x → (m : ℕ) (task : Task)
    → IsTaskOf p x m task → waits task.run ≡ true
    → (qs : List Reply) × (replies_in task.mail 0 none_taken (accesses_at p m (rest_of p x m task)) ≡ Some qs)
task_answers p f x b m task t w =
    let (k, e, stands) = t.run.waiting w in
    let n : steps_committed x m task.run ≡ k = committed_waits x m task.run w ∙ (omega arith) in
    let o = rest_of p x m task in
    let g = rest_is p f x b m t.may.inside k k (omega arith) (omega arith) in
    let state : o.state ≡ x.state m k = ap (λ (j : ℕ). (rest_after p x m j).state) n ∙ (g.state ∙ sym (b.own_step m k (omega arith))) in
    let rs = requests_of p (m, x.state m k) in
    let outs : task.mail.outcomes ≡ requested_outcomes rs (x.flags m k) =
    t.outcomes ∙ (ap (outcomes_at p x m) n ∙ cond-true (ltb k (x.emitted m)) (requested_outcomes rs (x.flags m k)) []
    (lt-ltb k (x.emitted m) (omega arith))) in
    let has = values_there_in p x m k task.mail none_taken (λ c. core_tally (design p) x m Pop c k) rs (x.flags m k)
    ((plan_is_design p f).owned m (x.state m k)) (t.may.there k e) (stand p f m (x.state m k))
    (λ c within own l. next c (core_tally (design p) x m Pop c k) (t.popped c within own ∙ ap (λ (j : ℕ). values_to_come p x m j c) n) l) in
    let fit = b.fit m k (omega arith) in
    let (qs, found) = all_found task.mail none_taken (done_in o.steps) 0 rs (x.flags m k) fit outs has in (
      qs,
      ap (λ (s : ModuleState). replies_in task.mail 0 none_taken (map (access_of (done_in o.steps)) (requests_of p (m, s))))
          state ∙ found,
    )
  where
    next : (c a : ℕ) → values_on task.mail c ≡ drop a (core_values (design p) x c) → a < length (core_values (design p) x c) → (v : ℕ)
        × (next_value task.mail none_taken c ≡ Some v)
    next c a e l =
        let z : a + 0 ≡ a = omega arith in (
          get_or (core_values (design p) x c) a 0,
          ap (λ (xs : List ℕ). slice_get xs 0) e
              ∙ (get_drop (core_values (design p) x c) a 0 ∙ (ap (slice_get (core_values (design p) x c)) z
              ∙ slice_get-get_or (core_values (design p) x c) a 0 l)),
        )

pub burst_has_marks : (p : Plan) → FitsEngine p → (x : Core ModuleState) → AreOwnMarks (design p) x → (m : ℕ) (task : Task) (burst : Burst)
    → IsTaskOf p x m task → IsBurst p m (rest_of p x m task) task burst
    → burst.short ≡ false → 0 < length burst.emitted
burst_has_marks p f x b m task burst t i s =
    elim (cases_Bool (waits task.run)) [
      | inl w ↦ from_step (task_answers p f x b m task t w) (subst (λ (c : Bool). IsBurstFrom c p m (rest_of p x m task) task.mail burst) w
          i)
      | inr w ↦ some_marks (rest_of p x m task) 0 none_taken burst.emitted
          (subst (λ (c : Bool). IsBurstFrom c p m (rest_of p x m task) task.mail burst) w i)
    ]
  where
    some_marks : (o : Own) (told : ℕ) (taken : ℕ → ℕ) (marks : List Advance)
        → RunsOn p m task.mail burst.short (task_left burst) o told taken marks → 0 < length marks
    some_marks o told taken [] (g, e) = let z = sym e ∙ s in cc
    some_marks o told taken (mark ∷ more) g = omega arith

    from_step : (qs : List Reply) × (replies_in task.mail 0 none_taken (accesses_at p m (rest_of p x m task)) ≡ Some qs)
        → IsBurstFrom true p m (rest_of p x m task) task.mail burst → 0 < length burst.emitted
    from_step (qs, e) (inl (n, q)) = let z = sym (q.missing s) ∙ e in cc
    from_step (qs, e) (inr (rs, (e', next))) =
        some_marks (next_rest p m (rest_of p x m task) rs) (0 + queries_in (accesses_at p m (rest_of p x m task)))
        (taken_after none_taken (accesses_at p m (rest_of p x m task)) rs) burst.emitted next
