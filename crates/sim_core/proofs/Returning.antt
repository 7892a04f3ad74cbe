-- Marks that come back, one after the other.
use Rattle.std.proofs.Common.{◌≡◌, refl, sym, ap, subst, ◌∙◌, ℕ, suc, ◌+◌, ◌^◌, ◌<◌, ◌≤◌, ◌⊎◌, inl, inr, Bool, true, false, List, [], ◌∷◌}
use Rattle.std.proofs.Common.{length, drop, drop-set-lt, get_or, set, Option, arith}
use Rattle.std.proofs.{lemmas.Bool.cases_Bool, lemmas.List.Sums.sum_by-cons}
use Rattle.sim_core.specs.{Side, Step as StepOf, Plan, ModuleState, Advance, FitsEngine, module_at, Own, ModuleRun, next_rest, accesses_at}
use Rattle.sim_core.specs.{mark_at, waits, is_step, gap_of, IsSmall, IsSmallStep, IsSoundMark, AreOwnMarks, Acts, ActsAll, MayRun}
use Rattle.sim_core.specs.{after_run, design, queries_in, core_of, Engine, held_in, with_over, CanEmit, HasEmitted, HasEmittedEnd, room_of}
use Rattle.sim_core.specs.{Mail, Task, Burst, burst_of, taken_after, none_taken, task_left, IsAfterStep, IsPast, RunsOn, IsBurst}
use Rattle.sim_core.specs.{IsBurstFrom, taken_at, IsTaskFor, IsTaskLeft, rest_of, HasPlacesForMarks, core_in, HasRoomForMarks, IsNextMark}
use Rattle.sim_core.specs.{AreReturned, HasBodiesWithin, IsCore, rest_after, lent_of}
use Rattle.flow_design.specs.declared.state.Advance.TheVariants.{Step}
use Rattle.event_timing.specs.{Core.Core, Actions.Action.Run}
use Rattle.event_timing.proofs.Running.{run_marks}
use Rattle.engine_view.specs.Held.{Held}
use Rattle.sim_core.proofs.{QueryRoom.room_for_step, Tasks.waits_first, Tasks.goes_first, Emission.IsReady}
use Rattle.sim_core.proofs.Ahead.{Goes, Waits, waits_after, over_after, goes_on, waiting_stands, going_stands, over_stands}
use Rattle.module_interp.proofs.Sound.{gap_at}
use Rattle.event_timing.specs.Actions as actions
use Rattle.sim_core.proofs.Emission as emission

-- ---- one mark

module _ {p : Plan} {s : Engine} {runs : List (Option ModuleRun)} {m : ℕ}
    {mark : Advance} (n : IsNextMark p s runs m mark) where
  abbrev rest : Own
  rest = rest_after p (core_in p s) m ((core_in p s).emitted m)

  pub may_record : m < length s.graph.lanes → IsReady p s runs m
  may_record l = record { core = n.room.core; inside = l; lent = n.room.lent; may = n.may }

  pub short_rest : rest.since < 10 ^ 18
  short_rest = let g = gap_at p m rest in let e = ap gap_of n.is in let l = n.sound.short in omega arith

  pub small_step : {t : StepOf} → mark ≡ Step t → IsSmallStep t
  small_step e = subst IsSmall e n.sound.small

  pub mark_step : {t : StepOf} → mark ≡ Step t → mark_at p m rest ≡ Step t
  mark_step e = sym n.is ∙ e

  step_places : {t : StepOf} → mark ≡ Step t → HasPlacesForMarks p s m (Step t ∷ [])
  step_places e = subst (λ (a : Advance). HasPlacesForMarks p s m (a ∷ [])) e n.room.places

  -- a step can be emitted, and leads to a core; so does an end
  module _ (inside : m < length s.graph.lanes) where
    module _ {t : StepOf} (e : mark ≡ Step t) where
      pub step_fits : CanEmit s m t
      step_fits = emission.can_emit (may_record inside) (mark_step e) short_rest (small_step e) (step_places e)

      pub core_emitted : {f : Engine} → HasEmitted s m t f → IsCore p f runs
      core_emitted done =
          emission.step_core (may_record inside) (mark_step e) short_rest (small_step e) done (step_places e)
          (room_for_step p n.room.core.fits m rest t (mark_step e) n.room.outcomes)

      pub acts_emitted : {f : Engine} → HasEmitted s m t f → Acts (design p) p.cycles (core_in p s) (Run m) (core_in p f)
      acts_emitted done = emission.acts_to (may_record inside) (mark_step e) short_rest (small_step e) done

    module _ (over : is_step mark ≡ false) where
      pub over_ended : core_of (design p) (with_over (held_in s) m) ≡ after_run (design p) (core_in p s) m
      over_ended = (emission.over_is (may_record inside) n.is over).0

    module _ (over : is_step mark ≡ false) {f : Engine} (done : HasEmittedEnd s m mark f) where
      pub core_ended : IsCore p f runs
      core_ended = emission.end_core (may_record inside) n.is over n.sound.short done

      pub acts_ended : Acts (design p) p.cycles (core_in p s) (Run m) (core_in p f)
      acts_ended = emission.end_acts (may_record inside) n.is over n.sound.short done

-- ---- a burst on its way

-- these marks of a burst are still to come: from a rest on, or none of them
abbrev pub IsOnWay : Plan → Core ModuleState → ℕ → Mail → Bool → Task → List Advance → Type 0
IsOnWay p x m mail short last marks =
    ((o : Own) × ((told : ℕ) × ((taken : ℕ → ℕ) × (Goes p x m mail o told taken × RunsOn p m mail short last o told taken marks))))
    ⊎ ((marks ≡ []) × IsTaskLeft p x m last)

-- the first of them is the module's next, and the others are to come after it
pub record IsFarther (p : Plan) (x : Core ModuleState) (m : ℕ) (mail : Mail) (short : Bool) (last : Task) (mark : Advance)
    (more : List Advance) : Type 0 where
  pub may : MayRun (design p) x m
  pub is : mark ≡ mark_at p m (rest_after p x m (x.emitted m))
  pub sound : IsSoundMark (length (rest_after p x m (x.emitted m)).steps) mark
  pub on : IsOnWay p (after_run (design p) x m) m mail short last more

-- after a step it waits, or goes on
from_step : (p : Plan) → FitsEngine p → (x : Core ModuleState) → AreOwnMarks (design p) x → (m : ℕ) (mail : Mail) (short : Bool)
    (last : Task) (o : Own) (told : ℕ) (taken : ℕ → ℕ) (marks : List Advance) → Waits p x m mail o told taken
    → IsAfterStep p m mail short last o told taken marks (λ o' told' taken'. RunsOn p m mail short last o' told' taken' marks)
    → IsOnWay p x m mail short last marks
from_step p f x b m mail short last o told taken marks w (inl (n, s)) =
    inr (n, waiting_stands p x m mail o told taken short last w s)
from_step p f x b m mail short last o told taken marks w (inr (qs, (r, next))) =
    inl (
      next_rest p m o qs,
      (
        told + queries_in (accesses_at p m o),
        (
          taken_after taken (accesses_at p m o) qs,
          (goes_on p f x b m mail o told taken w qs r, next),
        ),
      ),
    )

pub on_way_more : (p : Plan) → FitsEngine p → (x : Core ModuleState) → AreOwnMarks (design p) x → (m : ℕ) (mail : Mail) (short : Bool)
    (last : Task) (mark : Advance) (more : List Advance) → IsOnWay p x m mail short last (mark ∷ more)
    → IsFarther p x m mail short last mark more
on_way_more p f x b m mail short last mark more (inr (n, s)) = cc
on_way_more p f x b m mail short last mark more (inl (o, (told, (taken, (g, (e, sound, past)))))) = record {
  may = g.may;
  is = e ∙ ap (mark_at p m) g.stands;
  sound = subst (λ (q : Own). IsSoundMark (length q.steps) mark) g.stands sound;
  on = elim (cases_Bool (is_step mark)) [
    | inl s ↦
        from_step p f (after_run (design p) x m) (run_marks (design p) x b m g.may) m mail short last o told taken more
        (waits_after p f x b m mail o told taken g (ap is_step (sym e) ∙ s))
        (subst (λ (c : Bool). IsPast c p m mail short last o told taken more next) s past)
    | inr s ↦
        let (n, q) = subst (λ (c : Bool). IsPast c p m mail short last o told taken more next) s past in
        inr (
          n,
          subst (λ (y : Core ModuleState). IsTaskLeft p y m last)
              (sym (over_after p f x b m mail o told taken g (ap is_step (sym e) ∙ s)))
              (over_stands p x m mail o told taken last g q),
        )
  ];
}
  where
    next : Own → ℕ → (ℕ → ℕ) → Type 0
    next o' told' taken' = RunsOn p m mail short last o' told' taken' more

pub on_way_all : (p : Plan) (x : Core ModuleState) (m : ℕ) (mail : Mail) (short : Bool) (last : Task)
    → IsOnWay p x m mail short last [] → IsTaskLeft p x m last
on_way_all p x m mail short last (inl (o, (told, (taken, (g, (s, e)))))) = going_stands p x m mail o told taken last g s
on_way_all p x m mail short last (inr (n, s)) = s

-- where a burst of a task begins
pub on_way_first : (p : Plan) → FitsEngine p → (x : Core ModuleState) → AreOwnMarks (design p) x → (m : ℕ) (task : Task) (burst : Burst)
    → IsTaskFor p x m task → IsBurst p m (rest_of p x m task) task burst
    → IsOnWay p x m task.mail burst.short (task_left burst) burst.emitted
on_way_first p f x b m task burst t i =
    elim (cases_Bool (waits task.run)) [
      | inl w ↦
          from_step p f x b m task.mail burst.short (task_left burst) (rest_of p x m task) 0 none_taken burst.emitted
          (waits_first p x m task t w) (subst (λ (c : Bool). IsBurstFrom c p m (rest_of p x m task) task.mail burst) w i)
      | inr w ↦
          inl (
            rest_of p x m task,
            (
              0,
              (
                none_taken,
                (
                  goes_first p x m task t w,
                  subst (λ (c : Bool). IsBurstFrom c p m (rest_of p x m task) task.mail burst) w i,
                ),
              ),
            ),
          )
    ]

-- ---- the loop

-- room for marks is room for the first, and then for the others
module _ {p : Plan} {s : Engine} {m : ℕ} {mark : Advance} {more : List Advance} where
  first_places : HasPlacesForMarks p s m (mark ∷ more) → HasPlacesForMarks p s m (mark ∷ [])
  first_places (inl l) = inl (omega arith)
  first_places (inr f) = inr (record {
    steps = let n = f.steps in omega arith;
    ports = λ side c inside own.
        let room = f.ports side c inside own in let all = sum_by-cons (taken_at side c) mark more in omega arith;
  })

  other_places : {t : Engine} → get_or s.credits.items m 0 ≤ get_or t.credits.items m 0 + 2
      → get_or s.graph.rooms m 0 ≤ get_or t.graph.rooms m 0 + 1
      → ((side : Side) (c : ℕ) → room_of s.fifos side c ≤ room_of t.fifos side c + taken_at side c mark)
      → HasPlacesForMarks p s m (mark ∷ more) → HasPlacesForMarks p t m more
  other_places {t} credit lane left (inl l) = inl (omega arith)
  other_places {t} credit lane left (inr f) = inr (record {
    steps = let n = f.steps in omega arith;
    ports = λ side c inside own.
        let room = f.ports side c inside own in
        let all = sum_by-cons (taken_at side c) mark more in
        let after = left side c in
        omega arith;
  })

-- those left of a burst's marks are still to be emitted; with them the first core comes to where all marks bring it
pub record IsReturningOn (p : Plan) (s : Engine) (runs : List (Option ModuleRun))
    (m : ℕ) (mail : Mail) (short : Bool) (last : Task) (left : List Advance) (first : Core ModuleState) (count : ℕ) : Type 0 where
  pub room : HasRoomForMarks p s runs m left
  pub on : IsOnWay p (core_in p s) m mail short last left
  pub acts : (y : Core ModuleState) → ActsAll (design p) p.cycles (core_in p s) (actions.runs (length left) m) y
      → ActsAll (design p) p.cycles first (actions.runs count m) y

pub returning_first : {p : Plan} {s : Engine} {runs : List (Option ModuleRun)} {m : ℕ}
    {marks : List Advance} {last : Task} (r : AreReturned p s runs m marks last)
    → IsReturningOn p s runs m r.task.mail r.short last marks (core_in p s) (length marks)
returning_first {p} {s} {runs} {m} {marks} {last} r = record {
  room = r.room;
  on = on_way_first p r.room.core.fits (core_in p s) r.room.core.agreed.marks m r.task (burst_of last marks r.short) r.is_task
      r.is_burst;
  acts = λ y a. a;
}

module _ {p : Plan} {s : Engine} {runs : List (Option ModuleRun)} {m : ℕ} {mail : Mail}
    {short : Bool} {last : Task} {mark : Advance} {more : List Advance} {first : Core ModuleState} {count : ℕ}
    (r : IsReturningOn p s runs m mail short last (mark ∷ more) first count) where
  far : IsFarther p (core_in p s) m mail short last mark more
  far = on_way_more p r.room.core.fits (core_in p s) r.room.core.agreed.marks m mail short last mark more r.on

  pub next_mark : IsNextMark p s runs m mark
  next_mark = record {
    room = record {
      core = r.room.core;
      lent = r.room.lent;
      places = first_places r.room.places;
      outcomes = r.room.outcomes;
    };
    may = far.may;
    is = far.is;
    sound = far.sound;
  }

  pub returning_more : {t : Engine} → t.log ≡ s.log → IsCore p t runs
      → Acts (design p) p.cycles (core_in p s) (Run m) (core_in p t)
      → get_or s.credits.items m 0 ≤ get_or t.credits.items m 0 + 2 → get_or s.graph.rooms m 0 ≤ get_or t.graph.rooms m 0 + 1
      → ((side : Side) (c : ℕ) → room_of s.fifos side c ≤ room_of t.fifos side c + taken_at side c mark)
      → IsReturningOn p t runs m mail short last more first count
  returning_more {t} log core (may, after) credit lane left = record {
    room = record {
      core = core;
      lent = r.room.lent;
      places = other_places credit lane left r.room.places;
      outcomes = rw log r.room.outcomes;
    };
    on = subst (λ (x : Core ModuleState). IsOnWay p x m mail short last more) (sym after) far.on;
    acts = λ y a. r.acts y (core_in p t, (may, after), a);
  }

pub drop_after : (xs : List Advance) (n : ℕ) (v : Advance) → drop (suc n) (set xs n v) ≡ drop (suc n) xs
drop_after xs n v = drop-set-lt (suc n) xs n v (omega arith)

-- where none is left
pub all_acts : {p : Plan} {s : Engine} {runs : List (Option ModuleRun)} {m : ℕ}
    {mail : Mail} {short : Bool} {last : Task} {first : Core ModuleState} {count : ℕ}
    → IsReturningOn p s runs m mail short last [] first count
    → ActsAll (design p) p.cycles first (actions.runs count m) (core_in p s)
all_acts {p} {s} r = r.acts (core_in p s) refl

-- ---- the core

-- with room, a burst of a task for the core can come back
pub are_returned : (s : Engine) {p : Plan} {t : Engine} {runs : List (Option ModuleRun)} {m : ℕ}
    {burst : Burst} → held_in t ≡ held_in s → IsCore p t runs
    → get_or (lent_of runs) m true ≡ true → HasPlacesForMarks p t m burst.emitted
    → HasBodiesWithin (module_at p m) (get_or t.log.rooms m 0)
    → (task : Task) × (IsTaskFor p (core_in p s) m task × IsBurst p m (rest_of p (core_in p s) m task) task burst)
    → AreReturned p t runs m burst.emitted (task_left burst)
are_returned s {p} {t} {runs} {m} {burst} same core lent places outcomes (task, (for', is)) = record {
  room = record { core = core; lent = lent; places = places; outcomes = outcomes };
  task = task;
  short = burst.short;
  is_task = subst (λ (h : Held). IsTaskFor p (core_of (design p) h) m task) (sym same) for';
  is_burst = subst (λ (h : Held). IsBurst p m (rest_of p (core_of (design p) h) m task) task burst) (sym same) is;
}
