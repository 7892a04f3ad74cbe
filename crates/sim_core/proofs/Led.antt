-- The records of outcomes after an edit and the actions that follow.
use Rattle.std.proofs.Common.{◌≡◌, refl, sym, ap, ap₂, subst, ◌∙◌, ℕ, ◌<◌, inl, inr, Bool, true, false, Some, ltb, ◌&&◌, List, [], ◌∷◌}
use Rattle.std.proofs.Common.{◌++◌, length, get_or, arith}
use Rattle.std.proofs.{lemmas.Bool.and_parts, lemmas.Bool.both_ways, lemmas.Bool.cases_lt, lemmas.Bool.lt-ltb, lemmas.List.get_or_past}
use Rattle.std.specs.Prelude.{slice_get}
use Rattle.sim_core.specs.{Edit, Plan, with_depth, FitsEngine, ModuleState, HistoryStep, report, outcomes, Step, log_at, Query, Lane}
use Rattle.sim_core.specs.{lane_at, no_lane, Design, core_accesses, view, candidate, AreOwnMarks, IsAgreed, edited, after_edit, Action}
use Rattle.sim_core.specs.{ActsAll, IsFinal, MayRun, new_flags, design, lockstep_run, outcomes_by, first_requests, IsNextInHistory, step_of}
use Rattle.sim_core.specs.{emitted_of, are_among, core_of, IsSound, IsFoundOther, first_of, OutcomesGrow, CoreView, theory_of, Goes}
use Rattle.sim_core.specs.{IsDiffering, IsEditedOn, HasOtherAnswer, IsAsBefore, IsRetimed, IsChanged}
use Rattle.event_timing.specs.Core.{Core}
use Rattle.event_timing.proofs.{Answering.first_emitted, Beside.actions_grow, Deciding.determined_inside}
use Rattle.timing_bridge.proofs.{Edits.same_design, History.plan_is_design, History.run_is_history}
use Rattle.timing_bridge.proofs.Outcomes.{answered_outcomes, earliest_outcomes}
use Rattle.engine_view.specs.Held.{Held}
use Rattle.sim_core.proofs.{Rounds.acts_join, Cut.cut_of, Cut.cut_stays, Logged.answered_back, Logged.outcomes_on, Otherwise.AreOtherAt}
use Rattle.sim_core.proofs.{Otherwise.other_answer, RecordsGrow.all_recorded, Unadded.IsUnadded, Unadded.unadded_no_run}
use Rattle.sim_core.proofs.SameSteps.{same_flags, same_answered, all_asked}
use Rattle.retime.proofs.Counts.{same_steps}

-- a module with a step is one of the lanes
within_lanes : (h : Held) (m k : ℕ) → k < emitted_of h m → length h.logs ≡ length h.lanes → m < length h.logs
within_lanes h m k less same =
    elim (cases_lt m (length h.lanes)) [
      | inl l ↦ omega arith
      | inr l ↦
          let none : lane_at h.lanes m ≡ no_lane = get_or_past h.lanes m no_lane l in
          let zero : emitted_of h m ≡ 0 = ap (λ (q : Lane). length q.steps) none in
          absurd (omega arith)
    ]

-- ---- from a core with the same record

-- it has emitted the same, and its outcomes are those that are held
record HasRecordOf (p q : Plan) (h : Held) (x : Core ModuleState) (m : ℕ) : Type 0 where
  pub emitted : x.emitted m ≡ emitted_of h m
  pub accesses : (k : ℕ) → core_accesses (design q) x m k ≡ core_accesses (design p) (core_of (design p) h) m k
  pub answered : (k : ℕ) → x.answered m k ≡ (core_of (design p) h).answered m k
  pub flags : (k : ℕ) → x.flags m k ≡ (core_of (design p) h).flags m k

-- actions lead from there to the other core
record IsLed (p q : Plan) (h g : Held) : Type 0 where
  pub core : Core ModuleState
  pub record_is : (m : ℕ) → HasRecordOf p q h core m
  pub agreed : IsAgreed (design q) (lockstep_run q) q.cycles core
  pub no_run : (m : ℕ) → MayRun (design q) core m → ⊥
  pub actions : List Action
  pub all : ActsAll (design q) q.cycles core actions (core_of (design q) g)

led_grow : (p q : Plan) (h g : Held) → FitsEngine q → IsSound (design p) h → IsSound (design q) g → IsLed p q h g → (m : ℕ)
    → m < length h.logs → m < length g.logs → OutcomesGrow (log_at h.logs m) (log_at g.logs m)
led_grow p q h g fits sh sg l m in_h in_g =
    let x = l.core in
    let r = l.record_is m in
    let grows = actions_grow (design q) (lockstep_run q) (plan_is_design q fits) (run_is_history q fits) q.cycles x l.agreed l.actions
    (core_of (design q) g) l.all in
    let ends = all_recorded (design q) (lockstep_run q) (plan_is_design q fits) (run_is_history q fits) q.cycles x l.agreed l.actions
    (core_of (design q) g) l.all m in
    let e = r.emitted in
    outcomes_on (design p) (design q) h g m sh sg in_h in_g (let up = grows.emitted_up m in omega arith)
    (λ k u. ap (λ (s : ModuleState). (design q).accesses m s) (grows.state_same m k (omega arith)) ∙ r.accesses k)
    (λ k u a. grows.answered_up m k (omega arith) (r.answered k ∙ a))
    (λ k u a. grows.flags_same m k (omega arith) (r.answered k ∙ a) ∙ r.flags k)
    (elim ends.0 [
      | inl none ↦ inl (λ k u asks a. let (below, had) = none k u asks a in (omega arith, sym (r.answered k) ∙ had))
      | inr sure ↦ inr sure
    ])

-- where no outcome is added to a record, no Run is permitted
led_stays : (p q : Plan) (h g : Held) → FitsEngine q → IsSound (design p) h → IsSound (design q) g → IsLed p q h g
    → length h.logs ≡ length h.lanes → length g.logs ≡ length h.logs
    → ((m : ℕ) → m < length h.logs → (log_at g.logs m).outcomes ≡ (log_at h.logs m).outcomes) → (m : ℕ)
    → MayRun (design q) (core_of (design q) g) m → ⊥
led_stays p q h g fits sh sg l lanes logs same =
    unadded_no_run (design q) (lockstep_run q) (plan_is_design q fits) (run_is_history q fits) q.cycles x l.agreed l.no_run l.actions
    (core_of (design q) g) l.all unadded
  where
    x : Core ModuleState
    x = l.core

    unadded : IsUnadded x (core_of (design q) g)
    unadded m k less a =
        let r = l.record_is m in
        let e = r.emitted in
        let grows = actions_grow (design q) (lockstep_run q) (plan_is_design q fits) (run_is_history q fits) q.cycles x l.agreed l.actions
        (core_of (design q) g) l.all in
        let inside : m < length h.logs = within_lanes h m k (omega arith) lanes in
        r.answered k
        ∙ answered_back (design p) (design q) h g m sh sg inside (omega arith) (let up = grows.emitted_up m in omega arith)
        (λ j u. ap (λ (s : ModuleState). (design q).accesses m s) (grows.state_same m j (omega arith)) ∙ r.accesses j)
        (λ j u b. grows.answered_up m j (omega arith) (r.answered j ∙ b))
        (λ j u b. grows.flags_same m j (omega arith) (r.answered j ∙ b) ∙ r.flags j) (same m inside) k (omega arith) a

-- ---- an edit, and what follows

module _ (v : CoreView) (e : Edit) (w : CoreView) (t : IsEditedOn v e w) where
  led_before : IsAsBefore v t.middle e t.guard t.before t.now → IsLed v.plan w.plan v.held w.held
  led_before same =
      let goes = subst (λ (u : CoreView). Goes u t.later w t.after) same.core t.goes in
      let there = subst (λ (q : Plan). IsAgreed (design q) (lockstep_run q) q.cycles (theory_of v)
      × ActsAll (design q) q.cycles (theory_of v) goes.actions (theory_of w)) (sym goes.plan) (t.from.agreed, goes.all) in
      record {
        core = theory_of v;
        record_is = λ m. record {
          emitted = refl;
          accesses = λ k. ap (λ (q : Plan). core_accesses (design q) (theory_of v) m k) goes.plan;
          answered = λ k. refl;
          flags = λ k. refl;
        };
        agreed = there.0;
        no_run = λ m may. t.final.quiet.no_run m (subst (λ (q : Plan). MayRun (design q) (theory_of v) m) goes.plan may);
        actions = goes.actions;
        all = there.1;
      }

  led_retimed : IsRetimed v t.middle e t.guard t.before t.now → IsLed v.plan w.plan v.held w.held
  led_retimed r =
      let cut = after_edit (design v.plan) (theory_of v) r.clock in
      let plan : w.plan ≡ with_depth v.plan e.channel e.depth = t.goes.plan ∙ t.plan in
      let agreed = subst (λ (q : Plan). IsAgreed (design q) (lockstep_run q) q.cycles cut) (sym plan)
      (cut_of v.plan t.from.fits e t.fits v.held t.from.sound t.from.agreed t.final r.clock r.from) in
      let all = subst (λ (q : Plan). ActsAll (design q) q.cycles cut (r.leads.actions ++ t.goes.actions) (theory_of w)) (sym t.goes.plan)
      (acts_join (design t.middle.plan) t.middle.plan.cycles cut (theory_of t.middle) (theory_of w) r.leads.actions t.goes.actions
      r.leads.all t.goes.all) in
      record {
        core = cut;
        record_is = λ m. record {
          emitted = refl;
          accesses = λ k. ap (λ (q : Plan). core_accesses (design q) cut m k) plan;
          answered = λ k. refl;
          flags = λ k. refl;
        };
        agreed = agreed;
        no_run = λ m may. cut_stays v.plan t.from.fits e t.fits v.held t.from.sound t.from.agreed t.final r.clock m
            (subst (λ (q : Plan). MayRun (design q) cut m) plan may);
        actions = r.leads.actions ++ t.goes.actions;
        all = all;
      }

  -- where few cycles changed, they lead on from that core itself
  module _ (c : IsChanged v t.middle e t.guard t.before t.now) where
    abbrev now : Held
    now = t.middle.held

    depth_set : edited (design v.plan) e.channel e.depth ≡ design t.middle.plan
    depth_set = same_design v.plan e.channel e.depth t.fits.entry ∙ ap design (sym t.plan)

    plan_now : edited (design v.plan) e.channel e.depth ≡ design w.plan
    plan_now = depth_set ∙ ap design (sym t.goes.plan)

    accesses_now : (m k : ℕ) → core_accesses (design w.plan) (core_of (design w.plan) now) m k
        ≡ core_accesses (design v.plan) (core_of (design v.plan) v.held) m k
    accesses_now m k =
        subst (λ (f : Design ModuleState). core_accesses f (core_of f now) m k
        ≡ core_accesses (design v.plan) (core_of (design v.plan) v.held) m k) plan_now
        (all_asked (design v.plan) e.channel e.depth v.held now t.from.sound
        (subst (λ (f : Design ModuleState). IsSound f now) (sym depth_set) c.sound) t.from.agreed.marks
        (subst (λ (f : Design ModuleState). AreOwnMarks f (core_of f now)) (sym depth_set) c.agreed.marks)
        (same_steps v.held.lanes now.lanes c.steps) c.logs c.over m k)

    flags_now : (m k : ℕ) → (core_of (design w.plan) now).flags m k ≡ (core_of (design v.plan) v.held).flags m k
    flags_now m k = same_flags v.held now (same_steps v.held.lanes now.lanes c.steps) c.logs m k

    led_changed : IsLed v.plan w.plan v.held w.held
    led_changed =
        let there = subst (λ (q : Plan). IsAgreed (design q) (lockstep_run q) q.cycles (core_of (design q) now)
        × (IsFinal (design q) q.cycles (core_of (design q) now)
        × ActsAll (design q) q.cycles (core_of (design q) now) t.goes.actions (theory_of w)))
        (sym t.goes.plan) (c.agreed, (c.final, t.goes.all)) in
        record {
          core = core_of (design w.plan) now;
          record_is = λ m. record {
            emitted = ap (λ (ss : List Step). length ss) (same_steps v.held.lanes now.lanes c.steps m);
            accesses = accesses_now m;
            answered = same_answered v.held now (same_steps v.held.lanes now.lanes c.steps) c.logs m;
            flags = flags_now m;
          };
          agreed = there.0;
          no_run = λ m may. there.1.0.quiet.no_run m may;
          actions = t.goes.actions;
          all = there.1.1;
        }

  led : IsLed v.plan w.plan v.held w.held
  led = elim t.edited [
    | inl same ↦ led_before same
    | inr r ↦ elim r [ inl retimed ↦ led_retimed retimed | inr changed ↦ led_changed changed ]
  ]

  same_logs : length w.held.logs ≡ length v.held.logs
  same_logs =
      let a = t.from.sound.logs in
      let b = t.to.sound.logs in
      let plan = t.goes.plan ∙ t.plan in
      let modules : length w.plan.design.modules ≡ length v.plan.design.modules = ap (λ (q : Plan). length q.design.modules) plan in
      omega arith

  pub outcomes_led : (m : ℕ) → m < length v.held.logs → OutcomesGrow (log_at v.held.logs m) (log_at w.held.logs m)
  outcomes_led m l =
      led_grow v.plan w.plan v.held w.held t.to.fits t.from.sound t.to.sound led m l (let n = same_logs in omega arith)

  pub no_run_led : ((m : ℕ) → m < length v.held.logs → (log_at w.held.logs m).outcomes ≡ (log_at v.held.logs m).outcomes) → (m : ℕ)
      → MayRun (design w.plan) (theory_of w) m → ⊥
  no_run_led same =
      led_stays v.plan w.plan v.held w.held t.to.fits t.from.sound t.to.sound led
      (let a = t.from.sound.logs in let b = t.from.sound.lanes in omega arith) same_logs same

  -- ---- a query that is found to be another

  abbrev x : Core ModuleState
  x = theory_of w

  module _ (m c : ℕ) (q : Query) (found : IsFoundOther (design w.plan) w.held m c q)
      (at : candidate (design w.plan) (view (design w.plan) x) m ≡ Some c)
      (unsure : x.verified m (x.timed m) ≡ false)
      (next : (s : HistoryStep) × (s.clock ≡ c) × IsNextInHistory w.plan x m w.plan.cycles s
      × (outcomes (s ∷ []) ≡ outcomes_by (first_requests w.plan x m) (new_flags (design w.plan) x m c))) where
    emitted : first_of w.held m < emitted_of w.held m
    emitted = first_emitted (design w.plan) x m c at

    inside : m < length w.held.logs
    inside =
        let own = determined_inside (design w.plan) x t.to.agreed.marks.inside m c at in
        let same = t.to.sound.logs in omega arith

    other : AreOtherAt q.number (log_at w.held.logs m).outcomes (get_or (report w.plan).answers m [])
    other =
        let (s, clock, is, told) = next in
        other_answer w.plan w.held t.to.sound t.to.agreed m c inside q found at s is told

    -- they are as they were before the edit
    as_before : (log_at w.held.logs m).outcomes ≡ (log_at v.held.logs m).outcomes
    as_before =
        let grow = outcomes_led m (let n = same_logs in let i = inside in omega arith) in
        elim grow.ends [
          | inl same ↦ same
          | inr all ↦
              let now = log_at w.held.logs m in
              let step = step_of w.held m (first_of w.held m) in
              let there = (and_parts (ltb (first_of w.held m) (emitted_of w.held m))
              (are_among step (length now.outcomes)) found.recorded).1 in
              let sure : x.verified m (first_of w.held m) ≡ true =
              ap₂ (λ (a b : Bool). a && b) (lt-ltb (first_of w.held m) (emitted_of w.held m) emitted) (ap (are_among step) all ∙ there) in
              absurd (both_ways _ unsure sure)
        ]

    has_other : HasOtherAnswer v.held.logs w.plan q
    has_other =
        let o = other in
        let owned = found.other.owned in
        record {
          inside = let n = same_logs in let i = inside in omega arith;
          recorded = o.one;
          found = o.other;
          was = ap (λ (k : ℕ). slice_get (log_at v.held.logs k).outcomes q.number) owned
              ∙ (ap (λ (os : List Bool). slice_get os q.number) (sym as_before) ∙ o.here);
          is = ap (λ (k : ℕ). slice_get (get_or (report w.plan).answers k []) q.number) owned ∙ o.there;
          differ = o.differ;
        }

  pub differ_led : (q : Query) → IsDiffering w q → HasOtherAnswer v.held.logs w.plan q
  differ_led q (m, inl d) =
      has_other m d.cycle q d.found d.may.determined.at d.may.open_query
      (answered_outcomes w.plan t.to.fits w.plan.cycles x t.to.agreed m d.cycle d.may)
  differ_led q (m, inr d) =
      has_other m d.cycle q d.found d.may.open_step.determined.at d.may.open_step.open_query
      (earliest_outcomes w.plan t.to.fits w.plan.cycles x t.to.agreed m d.cycle d.may)
