-- A mark of a module, emitted by a Run: what it makes of the core.
use Rattle.std.proofs.Common.{◌≡◌, refl, sym, ap, subst, ◌∙◌, ℕ, suc, ◌-◌, ◌^◌, ◌<◌, ◌≤◌, inl, inr, true, false, List, [], ◌∷◌, length}
use Rattle.std.proofs.Common.{get_or, set, Option, Some, None, is_some, arith}
use Rattle.std.proofs.{lemmas.Bool.both_ways, lemmas.Bool.cases_lt, lemmas.Bool.cond-false, lemmas.Bool.Decides.eqb_tells}
use Rattle.std.proofs.lemmas.List.{length-set, length-map, map-set, get_or-set_same, get_or-set_other}
use Rattle.sim_core.specs.{Step as StepOf, Plan, ModuleState, Advance, gap_bound, is_over, Own, ModuleRun, mark_at, is_step, gap_of}
use Rattle.sim_core.specs.{IsSmallStep, waits, Design, ready, Acts, MayRun, newest, after_run, AreOwnMarks, Grows, IsSettled, design}
use Rattle.sim_core.specs.{held_parts, emitted_of, queries_in, core_of, IsSound, HasRoom, CanEmit, HasEmitted, HasEmittedEnd, Engine}
use Rattle.sim_core.specs.{held_in, over_of, IsNextStep, with_emitted, with_over, IsRestAfter, HasPlacesForMarks, IsEndOf, IsCore, IsRunOf}
use Rattle.sim_core.specs.{rest_after, lent_of}
use Rattle.flow_design.specs.declared.state.Advance.TheVariants.{Step}
use Rattle.module_interp.proofs.Gaps.{least_gap}
use Rattle.event_timing.specs.{Core.Core, Actions.Action.Run}
use Rattle.event_timing.proofs.{Assigning.put_same, Growing.settled_all, Running.newest_own, Beside.run_grows}
use Rattle.timing_bridge.proofs.History.{plan_is_design}
use Rattle.engine_view.specs.Held.{Held}
use Rattle.engine_view.proofs.{Emitted.emitted_core, Ended.over_core, Assigned.IsAlike, Assigned.alike_queries}
use Rattle.engine_view.proofs.Roomy.{IsEnoughFor, few_queries, apart_next, own_next, room_for_next, rich_next, room_emitted, room_same}
use Rattle.engine_view.proofs.Roomy.{pending_same}
use Rattle.sim_core.proofs.{Ahead.over_of_mark, Lends.not_lent, Resting.rest_is, Staying.fed_is, Keeping.core_acted, Keeping.same_end}
use Rattle.sim_core.proofs.Marking.{next_step, table_count}

-- a Run is permitted where the module's run goes on
pub may_go : (p : Plan) (x : Core ModuleState) (m : ℕ) (run : ModuleRun) → m < length p.design.modules → IsRunOf p x m run
    → waits run ≡ false → x.over m ≡ false → MayRun (design p) x m
may_go p x m run inside is answered lives = record {
  inside = inside;
  lives = lives;
  answered = λ k e. ((is.going answered).0 k e).0;
  there = λ k e. ((is.going answered).0 k e).1;
}

-- a Run of a module whose run is out of the core is permitted
pub record IsReady (p : Plan) (s : Engine) (runs : List (Option ModuleRun)) (m : ℕ)
    : Type 0 where
  pub core : IsCore p s runs
  pub inside : m < length s.graph.lanes
  pub lent : get_or (lent_of runs) m true ≡ true
  pub may : MayRun (design p) (core_of (design p) (held_in s)) m

module _ {p : Plan} {s : Engine} {runs : List (Option ModuleRun)} {m : ℕ}
    (r : IsReady p s runs m) where
  abbrev d : Design ModuleState
  d = design p

  abbrev h : Held
  h = held_in s

  abbrev x : Core ModuleState
  x = core_of d h

  abbrev pub rest : Own
  rest = rest_after p x m (emitted_of h m)

  marks : AreOwnMarks d x
  marks = r.core.agreed.marks

  pub settled : IsSettled d x m (emitted_of h m)
  settled = settled_all d x marks m r.may.answered r.may.there

  rest_there : IsRestAfter p x m (emitted_of h m) rest
  rest_there = rest_is p r.core.fits x marks m r.may.inside (emitted_of h m) (emitted_of h m) (omega arith) (omega arith)

  others_out : (n : ℕ) (other : ModuleRun) → get_or runs n None ≡ Some other → (n ≡ m → ⊥)
  others_out n other e q = both_ways _ (not_lent runs m other (rw (← q) e)) r.lent

  -- ---- a step

  module _ {t : StepOf} (mark : mark_at p m rest ≡ Step t) (short : rest.since < 10 ^ 18) (small : IsSmallStep t) where
    abbrev g : Held
    g = with_emitted h m t

    after_a_step : 0 < emitted_of h m → 1 ≤ rest.since
    after_a_step l =
        let e : emitted_of h m ≡ suc (emitted_of h m - 1) = omega arith in
        subst (λ (n : ℕ). 1 ≤ (rest_after p x m n).since) (sym e) (subst (λ (o : Own). 1 ≤ o.since)
        (sym (fed_is p x m (emitted_of h m - 1))) (least_gap p m _ _))

    next : IsNextStep d h m t × (d.is_over m (ready d m (newest d x m)) ≡ false)
    next = next_step p r.core.fits h r.core.table r.core.sound marks m rest t rest_there short (let f = small.few in omega arith) after_a_step
        mark

    pub step_is : IsNextStep d h m t
    step_is = next.0

    pub core_is : (core_of d g ≡ after_run d x m) × IsSound d g
    core_is = emitted_core d (plan_is_design p r.core.fits) h m t r.inside r.core.sound step_is marks r.may next.1

    pub emitted_more : (core_of d g).emitted m ≡ suc (emitted_of h m)
    emitted_more =
        ap (λ (z : Core ModuleState). z.emitted m) (core_is.0 ∙ cond-false {A = Core ModuleState} (d.is_over m (ready d m (newest d x m))) _
        _ next.1)
        ∙ put_same x.emitted m (suc (x.emitted m))

    pub grows : Grows d x (core_of d g)
    grows = rw core_is.0 (run_grows d x m)

    pub step_acts : Acts d p.cycles x (Run m) (core_of d g)
    step_acts = (r.may, core_is.0)

    emitted_is : {f : Engine} → HasEmitted s m t f → held_in f ≡ g
    emitted_is e = rw (e.lanes, e.channels, e.log, e.ends) refl

    pub acts_to : {f : Engine} → HasEmitted s m t f → Acts d p.cycles x (Run m) (core_of d (held_in f))
    acts_to e = (r.may, subst (λ (q : Held). core_of d q ≡ after_run d x m) (sym (emitted_is e)) core_is.0)

    -- there is room for it in the lane, and at the ports
    lane_there : HasPlacesForMarks p s m (Step t ∷ []) → 0 < get_or s.graph.rooms m 0
    lane_there (inl l) = let most = r.core.room.steps m in omega arith
    lane_there (inr f) = f.steps

    enough : HasPlacesForMarks p s m (Step t ∷ []) → IsEnoughFor d h m t.accesses s.fifos s.credits.items
    enough (inl l) = rich_next d (plan_is_design p r.core.fits) h m t step_is r.core.room l
    enough (inr f) = elim (cases_lt (get_or s.credits.items m 0) 2) [
      | inl l ↦ λ side c inside own.
          let count = table_count p s.fifos.channels r.core.table in
          let room = f.ports side c (omega arith) own in
          omega arith
      | inr l ↦ rich_next d (plan_is_design p r.core.fits) h m t step_is r.core.room l
    ]

    pub can_emit : HasPlacesForMarks p s m (Step t ∷ []) → CanEmit s m t
    can_emit places =
        let logs = r.core.sound.logs in
        let lanes = r.core.sound.lanes in
        let count = r.core.counted in
        let inside = r.inside in
        record {
          owner = record { lane = r.inside; log = omega arith; credit = omega arith };
          sound = step_is.sound;
          after = step_is.apart;
          takes = record {
            inside = step_is.inside;
            own = own_next d (plan_is_design p r.core.fits) h m t step_is r.core.sound;
            apart = apart_next d (plan_is_design p r.core.fits) h m t step_is;
            room = room_for_next d (plan_is_design p r.core.fits) h m t step_is s.fifos s.credits.items (enough places);
          };
          lane_room = lane_there places;
          few = let f = small.first_query in omega arith;
        }

    -- so it is a core with the step
    pub step_core : {f : Engine} → HasEmitted s m t f → HasPlacesForMarks p s m (Step t ∷ [])
        → queries_in t.accesses ≤ get_or s.log.rooms m 0 → IsCore p f runs
    step_core {f} e places log_room =
        let first = small.first_query in
        let few = few_queries t.accesses in
        let most = small.few in
        let is = emitted_is e in
        let count = length-set s.credits.items m (get_or s.credits.items m 0 - 2) in
        core_acted r.core f (Run m)
        (acts_to e) (subst (IsSound d) (sym is) core_is.1) e.kinds
        (ap (λ (cs : List ℕ). length cs) e.credits ∙ count)
        (rw (is, e.log, e.credits) (room_emitted d (plan_is_design p r.core.fits) h m t r.inside r.core.sound step_is marks r.may next.1
        s.graph.rooms f.graph.rooms s.fifos f.fifos s.log.rooms s.credits.items r.core.room
        (let n = r.core.counted in let i = r.inside in omega arith) (enough places) e.room log_room (omega arith)))
        (λ n other there. (others_out n other there, tt)) (λ n mark there. inl (same_end s f e.ends n mark there))

  -- ---- the end

  length_over : length h.over ≡ length s.graph.lanes
  length_over = r.core.sound.overs ∙ sym r.core.sound.lanes

  alike : IsAlike (with_over h m) h
  alike = record { steps = λ n. refl; channels = refl; logs = refl }

  module _ {end : Advance} (mark : end ≡ mark_at p m rest) (over : is_step end ≡ false) where
    is_done : d.is_over m (ready d m (newest d x m)) ≡ true
    is_done =
        let is_mark = over_of_mark p m rest in
        let over_there : is_over p.ops rest.state ≡ true = grind arith in
        ap (λ (q : ModuleState). is_over p.ops (ready d m q)) (newest_own d x marks m (emitted_of h m) (omega arith))
        ∙ (ap (is_over p.ops) (sym rest_there.state) ∙ over_there)

    pub over_is : (core_of d (with_over h m) ≡ after_run d x m) × IsSound d (with_over h m)
    over_is = over_core d h m (let n = length_over in let i = r.inside in omega arith) r.core.sound marks r.may is_done

  module _ {end : Advance} (mark : end ≡ mark_at p m rest) (over : is_step end ≡ false) (short : gap_of end < gap_bound)
      {f : Engine} (e : HasEmittedEnd s m end f) where
    held_now : held_parts h.lanes h.channels h.logs (over_of f.ends.items) ≡ with_over h m
    held_now = ap (held_parts h.lanes h.channels h.logs) (ap over_of e.ends ∙ map-set is_some s.ends.items m (Some end))

    held_is : held_in f ≡ with_over h m
    held_is = rw (e.graph, e.fifos, e.log) held_now

    pub end_acts : Acts d p.cycles x (Run m) (core_of d (held_in f))
    end_acts = subst (λ (q : Held). Acts d p.cycles x (Run m) (core_of d q)) (sym held_is) (r.may, (over_is mark over).0)

    end_of : IsEndOf p (core_of d (with_over h m)) m end
    end_of = record { no_step = over; short = short; answered = λ k e. (r.may.answered k e, r.may.there k e); is = mark }

    pub end_core : IsCore p f runs
    end_core =
        core_acted r.core f (Run m) end_acts (subst (IsSound d) (sym held_is) (over_is mark over).1) (rw e.fifos refl) (rw e.credits refl)
        (rw (e.graph, e.fifos, e.log, e.credits)
        (subst (λ (q : Held). HasRoom d q s.graph.rooms s.fifos s.log.rooms s.credits.items) (sym held_now)
        (room_same d h (with_over h m) s.graph.rooms s.graph.rooms s.fifos s.log.rooms s.credits.items r.core.room refl
        (λ n. pending_same (core_of d (with_over h m)) x n refl (λ k. refl))
        (λ n. alike_queries (with_over h m) h alike n (emitted_of h n)) (λ n. refl) (λ k. omega arith))))
        (λ n other there. (others_out n other there, tt))
        (λ n mark there.
        let now : get_or (set s.ends.items m (Some end)) n None ≡ Some mark = rw (← e.ends) there in
        elim (eqb_tells n m) [
          | inl q ↦
              let here : get_or (set s.ends.items m (Some end)) m None ≡ Some end = get_or-set_same s.ends.items m (Some end) None
              (let a = length_over in let b = length-map s.ends.items is_some in let i = r.inside in omega arith) in
              let module_is = q.1 in
              let same : end ≡ mark = cc in
              inr (rw (module_is, ← same) (subst (λ (q : Held). IsEndOf p (core_of d q) m end) (sym held_is) end_of))
          | inr q ↦ inl (sym (get_or-set_other s.ends.items m n (Some end) None q.1) ∙ now)
        ])
