-- What Assigns and Answers of one module, one after the other, leave of all that a core keeps.
use Rattle.std.proofs.Common.{◌≡◌, refl, sym, ap, subst, ◌∙◌, ℕ, zero, suc, ◌+◌, ◌<◌, inl, inr, Bool, true, false, arith, List, [], ◌∷◌}
use Rattle.std.proofs.Common.{◌++◌, length, Option}
use Rattle.std.proofs.lemmas.Bool.{cases_lt}
use Rattle.std.specs.Prelude.{slice_index_or}
use Rattle.sim_core.specs.{Plan, ModuleState, ModuleRun, Has, IsAdded, IsRemoved, Candidate, Design, view, candidate, IsAgreed, Action}
use Rattle.sim_core.specs.{Acts, ActsAll, MayAssign, MayRun, IsNoRunOf, design, lockstep_run, AreApart, may_time, after_timing, Engine}
use Rattle.sim_core.specs.{kinds_in, Timing, HasTimed, IsIdle, KeepsRoom, MayTakeIn, is_progress, left, ticks_of, Lacks, SetHasRoom}
use Rattle.sim_core.specs.{AreAsking, AreListed, VisitLeads, has_acted, core_in, HasTurned, CoreView, theory_of, AreWaking, IsSpread}
use Rattle.sim_core.specs.{DueModules, Visit, Wiring, IsCore, IsStoredCore, lent_of, AreTimingsOf, answers_among, HasTimedOnce, IsHeldOf}
use Rattle.sim_core.specs.{StretchLeads, TimesOn, view_in, declared.unread.Unread.Unread, declared.visit.Visit.TheVariants.Acted}
use Rattle.sim_core.specs.{declared.visit.Visit.TheVariants.Differs, declared.visit.Visit.TheVariants.Idle}
use Rattle.event_timing.specs.{Core.Core, Actions.Action.Run, Actions.Action.Assign, Actions.Action.Answer, Actions.Action.Earliest}
use Rattle.timing_bridge.proofs.{Apart.timing_apart, Apart.candidate_apart, History.plan_is_design, Onward.assigned_is, Onward.answered_is}
use Rattle.timing_bridge.proofs.RunApart.{assign_no_run, answer_no_run}
use Rattle.sim_core.proofs.{Asking.asking_idle, Asking.still_room, Keeping.kept_of, Leaving.grown, Roomed.stored_alike}
use Rattle.sim_core.proofs.Listing.{IsStaying, listed_by, listed_fewer}
use Rattle.engine_view.specs.declared.turn.Timing.TheVariants as turn
use Rattle.sim_core.proofs.Rounds as rounds
use Rattle.sim_core.proofs.Turning as turning

-- ---- lists of them

-- some more
timings_join : (m : ℕ) (front later : List Action) → AreTimingsOf m front → AreTimingsOf m later → AreTimingsOf m (front ++ later)
timings_join m [] later f r = r
timings_join m (Run n ∷ rest) later f r = absurd f
timings_join m (Assign n ∷ rest) later (e, f) r = (e, timings_join m rest later f r)
timings_join m (Answer n ∷ rest) later (e, f) r = (e, timings_join m rest later f r)
timings_join m (Earliest n ∷ rest) later f r = absurd f

answers_join : (m : ℕ) (front later : List Action) → AreTimingsOf m front
    → answers_among (front ++ later) ≡ answers_among front + answers_among later
answers_join m [] later f = omega arith
answers_join m (Run n ∷ rest) later f = absurd f
answers_join m (Assign n ∷ rest) later (e, f) = answers_join m rest later f
answers_join m (Answer n ∷ rest) later (e, f) = let more = answers_join m rest later f in omega arith
answers_join m (Earliest n ∷ rest) later f = absurd f

-- no Run is among them
no_runs : (m n : ℕ) (actions : List Action) → AreTimingsOf m actions → IsNoRunOf n actions
no_runs m n [] f = tt
no_runs m n (Run k ∷ rest) f = absurd f
no_runs m n (Assign k ∷ rest) (e, f) = no_runs m n rest f
no_runs m n (Answer k ∷ rest) (e, f) = no_runs m n rest f
no_runs m n (Earliest k ∷ rest) f = absurd f

-- cycles alone permit no Run of any module
assigns_no_run : {S : Type 0} (d : Design S) (limit m n : ℕ) (actions : List Action) → AreTimingsOf m actions → answers_among actions ≡ 0
    → (x y : Core S) → ActsAll d limit x actions y → MayRun d y n → MayRun d x n
assigns_no_run {S} d limit m n [] f none x y is may = subst (λ (z : Core S). MayRun d z n) is may
assigns_no_run {S} d limit m n (Run k ∷ rest) f none x y acts may = absurd f
assigns_no_run {S} d limit m n (Assign k ∷ rest) (e, f) none x y (z, (c, permitted, is), acts) may =
    assign_no_run d x k n c (subst (λ (q : Core S). MayRun d q n) is (assigns_no_run d limit m n rest f none z y acts may))
assigns_no_run {S} d limit m n (Answer k ∷ rest) (e, f) none x y acts may = absurd (omega (arith, none))
assigns_no_run {S} d limit m n (Earliest k ∷ rest) f none x y acts may = absurd f

-- ---- another module, with which their module shares no channel

-- nothing more is permitted of module n in y than in x, and its candidate is the same
pub record StaysApart {S : Type 0} (d : Design S) (limit n : ℕ) (x y : Core S) : Type 0 where
  pub timing : may_time d limit y n ≡ may_time d limit x n
  pub found : candidate d (view d y) n ≡ candidate d (view d x) n
  pub run : MayRun d y n → MayRun d x n

module _ {S : Type 0} (d : Design S) (limit m n : ℕ) (other : n ≡ m → ⊥) (apart : AreApart d m n) where
  abbrev Stays : Core S → Core S → Type 0
  Stays = StaysApart d limit n

  stays : (x : Core S) → Stays x x
  stays x = record { timing = refl; found = refl; run = λ may. may }

  stays_on : (x y z : Core S) → Stays x y → Stays y z → Stays x z
  stays_on x y z s t = record {
    timing = t.timing ∙ s.timing;
    found = t.found ∙ s.found;
    run = λ may. s.run (t.run may);
  }

  -- after what is done at that other module
  stays_by : (x y : Core S) → y ≡ after_timing d limit x m → (MayRun d y n → MayRun d x n) → Stays x y
  stays_by x y is run = record {
    timing = ap (λ (z : Core S). may_time d limit z n) is ∙ timing_apart d limit x m n other apart;
    found = ap (λ (z : Core S). candidate d (view d z) n) is ∙ candidate_apart d limit x m n other apart;
    run = run;
  }

  stays_assigned : (x y : Core S) → Acts d limit x (Assign m) y → Stays x y
  stays_assigned x y (c, may, is) =
      stays_by x y (is ∙ sym (assigned_is d limit x m c may).1)
      (λ r. assign_no_run d x m n c (subst (λ (z : Core S). MayRun d z n) is r))

  stays_answered : (x y : Core S) → Acts d limit x (Answer m) y → Stays x y
  stays_answered x y (c, may, inl (same, is)) =
      stays_by x y (is ∙ sym (answered_is d limit x m c may).1)
      (λ r. answer_no_run d x m n other apart c (subst (λ (z : Core S). MayRun d z n) is r))
  stays_answered x y (c, may, inr (differs, is)) = subst (Stays x) (sym is) (stays x)

  all_stay : (actions : List Action) → AreTimingsOf m actions → (x y : Core S) → ActsAll d limit x actions y
      → Stays x y
  all_stay [] f x y is = subst (Stays x) (sym is) (stays x)
  all_stay (Run k ∷ rest) f x y acts = absurd f
  all_stay (Assign k ∷ rest) (e, f) x y (z, act, acts) =
      stays_on x z y (stays_assigned x z (subst (λ (i : ℕ). Acts d limit x (Assign i) z) e act)) (all_stay rest f z y acts)
  all_stay (Answer k ∷ rest) (e, f) x y (z, act, acts) =
      stays_on x z y (stays_answered x z (subst (λ (i : ℕ). Acts d limit x (Answer i) z) e act)) (all_stay rest f z y acts)
  all_stay (Earliest k ∷ rest) f x y acts = absurd f

-- ---- one of them

module _ (v w : CoreView) (m before : ℕ) (plan : w.plan ≡ v.plan) (lent : w.lent ≡ v.lent)
    (agreed : IsAgreed (design v.plan) (lockstep_run v.plan) v.plan.cycles (theory_of v)) where
  times_one : (r : Timing) (after : ℕ) → HasTurned r v m w → after ≡ before + ticks_of r → HasTimedOnce r v before m w after
  unfolding rounds.was_assigned rounds.was_answered rounds.one
  times_one (turn.Assigned c) after done ticked = record {
    on = rounds.was_assigned v w m before plan lent agreed c after done ticked;
    are = (refl, tt);
    answered = refl;
  }
  times_one (turn.Answered c) after done ticked = record {
    on = rounds.was_answered v w m before plan lent agreed c after done ticked;
    are = (refl, tt);
    answered = refl;
  }
  times_one (turn.Differs q) after (same, different) ticked = (same, (omega arith), different)
  times_one turn.Nothing after (same, idle) ticked = (same, (omega arith), idle)

-- a turn of the engine
module _ {p : Plan} {s : Engine} {runs : List (Option ModuleRun)} {m limit : ℕ}
    (h : IsHeldOf p s runs m limit) (t : Engine) (r : Timing) (timed : HasTimed r limit m s t) (room : KeepsRoom s t)
    (kinds : kinds_in t.fifos.channels ≡ kinds_in s.fifos.channels) (less : is_progress r ≡ true → left t < left s) where
  done : HasTimed r p.cycles m s t
  done = subst (λ (n : ℕ). HasTimed r n m s t) h.limited timed

  core : IsCore p t runs
  core = turning.core_timed h.core t m r done room kinds

  pub held_after : IsHeldOf p t runs m limit
  held_after = record { core = core; inside = h.inside; limited = h.limited }

  pub has_turned : HasTurned r (view_in p s runs) m (view_in p t runs)
  has_turned =
      turning.turned h.core t m r (lent_of runs) done (λ cycle e.
      turning.changed (design p) s t (core.sound.lanes ∙ sym h.core.sound.lanes) (less (ap is_progress e)))

  pub times_after : (before after : ℕ) → after ≡ before + ticks_of r
      → HasTimedOnce r (view_in p s runs) before m (view_in p t runs) after
  times_after before after ticked =
      times_one (view_in p s runs) (view_in p t runs) m before refl refl h.core.agreed r after has_turned ticked

-- the step that may be given its cycle is so in the engine
pub may_take : {p : Plan} {s : Engine} {runs : List (Option ModuleRun)} {m limit : ℕ}
    → IsHeldOf p s runs m limit → (c : ℕ) → MayAssign (design p) p.cycles (core_in p s) m c → MayTakeIn s m c
may_take {p} {s} h c may =
    (design p, p.cycles, h.core.fits.cycles, plan_is_design p h.core.fits, kept_of h.core, may)

-- ---- one more of them

pub times_join : (u v w : CoreView) (x b a m one two : ℕ) → TimesOn u x m one v b → TimesOn v b m two w a → TimesOn u x m (one + two) w a
unfolding rounds.on_join rounds.goes_join
times_join u v w x b a m one two s t = record {
  on = rounds.on_join u v w x b a s.on t.on;
  are = timings_join m s.on.goes.actions t.on.goes.actions s.are t.are;
  answered =
      let all = answers_join m s.on.goes.actions t.on.goes.actions s.are in
      let here = s.answered in
      let there = t.answered in
      omega arith;
}

-- after so many
pub times_next : (cycles : ℕ) (u v w : CoreView) (x b a m was one all : ℕ) → all ≡ was + one
    → (cycles ≡ 0 → (v ≡ u) × (b ≡ x) × (was ≡ 0)) → (0 < cycles → TimesOn u x m was v b) → TimesOn v b m one w a
    → TimesOn u x m all w a
times_next zero u v w x b a m was one all sum none some t =
    let (same, ticks, unanswered) = none refl in
    subst (λ (q : CoreView). TimesOn q x m all w a) same
    (subst (λ (i : ℕ). TimesOn v i m all w a) ticks
    (subst (λ (n : ℕ). TimesOn v b m n w a) (let e : one ≡ all = omega arith in e) t))
times_next (suc cycles) u v w x b a m was one all sum none some t =
    subst (λ (n : ℕ). TimesOn u x m n w a) (sym sum) (times_join u v w x b a m was one (some (omega arith)) t)

-- none was permitted after so many, or it found another outcome
pub times_stopped : (cycles : ℕ) (visit other : Visit) (u v w : CoreView) (x b a m answers : ℕ)
    → (0 < cycles → (again : Bool) × (visit ≡ Acted again)) → (cycles ≡ 0 → visit ≡ other) → (cycles ≡ 0 → (v ≡ u) × (b ≡ x))
    → (0 < cycles → TimesOn u x m answers v b) → w ≡ v → a ≡ b → StretchLeads other answers v b m w a
    → StretchLeads visit answers u x m w a
times_stopped zero visit other u v w x b a m answers acted is none some same ticks t =
    let (from, at) = none refl in
    rw (is refl) (subst (λ (q : CoreView). StretchLeads other answers q x m w a) from
    (subst (λ (i : ℕ). StretchLeads other answers v i m w a) at t))
times_stopped (suc cycles) visit other u v w x b a m answers acted is none some same ticks t =
    rw ((acted (omega arith)).1, same, ticks) (some (omega arith))

-- ---- a core after them

pub stretch_leads : (visit : Visit) (answers : ℕ) (v w : CoreView) (b a m : ℕ) → StretchLeads visit answers v b m w a
    → VisitLeads visit v b m w a
stretch_leads (Acted again) answers v w b a m f = f.on
stretch_leads (Differs q) answers v w b a m f = f
stretch_leads Idle answers v w b a m f = f

module _ {p : Plan} {s : Engine} {runs : List (Option ModuleRun)} {wiring : Wiring} {unread : List Unread}
    {due : DueModules} {candidates : List Candidate} (k : IsStoredCore p s runs wiring unread due candidates) (m : ℕ)
    (inside : m < length p.design.modules) where
  abbrev d : Design ModuleState
  d = design p

  abbrev x : Core ModuleState
  x = core_in p s

  -- where none is permitted of the module
  pub stored_unasked : IsIdle d p.cycles x m → (now : DueModules) → IsRemoved due.asking m now.asking → now.running ≡ due.running
      → IsAdded due.unlisted m now.unlisted → IsStoredCore p s runs wiring unread now candidates
  stored_unasked idle now removed same added = record {
    core = k.core;
    wired = k.wired;
    unread_are = k.unread_are;
    due_are = record {
      asking_are =
          asking_idle p k.core.fits x due.asking k.due_are.asking_are wiring.hints k.wired.beside_are m inside now.asking removed.room
          (λ n other lacks h. lacks ((removed.has n).1 (h, other))) idle;
      running_are = subst (AreWaking p x) (sym same) k.due_are.running_are;
    };
    listed_are =
        let room = k.listed_are.room in
        listed_fewer p x due candidates k.listed_are now added.room (λ n l (asks, listed). (
          λ h. asks ((removed.has n).1 (h, λ e. listed ((added.has n).1 (inr (e, (omega arith)))))),
          λ h. listed ((added.has n).1 (inl h)),
        ));
  }

  -- after some Assigns and Answers of the module
  module _ (t : Engine) (now_core : IsCore p t runs) (b a answers : ℕ)
      (timed : TimesOn (view_in p s runs) b m answers (view_in p t runs) a) (now : DueModules)
      (asks : IsSpread due.asking (slice_index_or wiring.hints m []) m now.asking)
      (wakes : 0 < answers → IsSpread due.running (slice_index_or wiring.hints m []) m now.running)
      (rests : answers ≡ 0 → now.running ≡ due.running) (same : now.unlisted ≡ due.unlisted) where
    abbrev y : Core ModuleState
    y = core_in p t

    acts : ActsAll d p.cycles x timed.on.goes.actions y
    acts = timed.on.goes.all

    -- a module that is left out of a set that was spread
    module _ (old set : List ℕ) (room : SetHasRoom p old) (spread : IsSpread old (slice_index_or wiring.hints m []) m set) (n : ℕ)
        (l : n < length p.design.modules) (lacks : Lacks set n) where
      other_than : n ≡ m → ⊥
      other_than e = lacks (subst (Has set) (sym e) (spread.own (omega arith)))

      pub stays_out : StaysApart d p.cycles n x y
      stays_out =
          all_stay d p.cycles m n other_than (k.wired.beside_are.apart m inside n l (spread.beside n (omega arith) lacks))
          timed.on.goes.actions timed.are x y acts

    asking : AreAsking p y now.asking
    asking =
        let are = k.due_are.asking_are in
        record {
          room = still_room p due.asking now.asking asks.room are.room;
          idle = λ n l lacks. (stays_out due.asking now.asking are.room asks n l lacks).timing ∙ are.idle n l (asks.kept n lacks);
        }

    waking : AreWaking p y now.running
    waking =
        let are = k.due_are.running_are in
        elim (cases_lt 0 answers) [
          | inl l ↦
              let spread = wakes l in
              record {
                room = still_room p due.running now.running spread.room are.room;
                none = λ n inside lacks may.
                    are.none n inside (spread.kept n lacks) ((stays_out due.running now.running are.room spread n inside lacks).run may);
              }
          | inr l ↦
              let zero_is : answers ≡ 0 = omega arith in
              subst (AreWaking p y) (sym (rests zero_is)) (record {
                room = are.room;
                none = λ n inside lacks may.
                    are.none n inside lacks
                    (assigns_no_run d p.cycles m n timed.on.goes.actions timed.are (timed.answered ∙ zero_is) x y acts may);
              })
        ]

    listed : AreListed p y now candidates
    unfolding IsStaying
    listed =
        listed_by p x due candidates k.listed_are y now (ap (λ (set : List ℕ). length set) same) (λ n l (out, listed). (
          (asks.kept n out, subst (λ (set : List ℕ). Lacks set n) same listed),
          (stays_out due.asking now.asking k.due_are.asking_are.room asks n l out).found,
        ))

    pub stored_timed : IsStoredCore p t runs wiring unread now candidates
    stored_timed = record {
      core = now_core;
      wired = k.wired;
      unread_are =
          grown p s runs k.core unread k.unread_are 0 timed.on.goes.actions (no_runs m 0 timed.on.goes.actions timed.are) y acts;
      due_are = record { asking_are = asking; running_are = waking };
      listed_are = listed;
    }

  -- after a stretch of them, whatever it did
  pub stored_after : (t : Engine) → IsCore p t runs → (b a answers : ℕ) (visit : Visit)
      → StretchLeads visit answers (view_in p s runs) b m (view_in p t runs) a → (now : DueModules)
      → (has_acted visit ≡ false → now ≡ due)
      → (has_acted visit ≡ true → IsSpread due.asking (slice_index_or wiring.hints m []) m now.asking)
      → (has_acted visit ≡ true → 0 < answers → IsSpread due.running (slice_index_or wiring.hints m []) m now.running)
      → (answers ≡ 0 → now.running ≡ due.running) → now.unlisted ≡ due.unlisted
      → IsStoredCore p t runs wiring unread now candidates
  stored_after t now_core b a answers (Acted again) timed now none asks wakes rests same =
      stored_timed t now_core b a answers timed now (asks refl) (wakes refl) rests same
  stored_after t now_core b a answers (Differs q) (e, ticks, f) now none asks wakes rests same =
      rw (none refl) (stored_alike k m inside t (ap (λ (v : CoreView). v.held) e) runs now_core)
  stored_after t now_core b a answers Idle (e, ticks, f) now none asks wakes rests same =
      rw (none refl) (stored_alike k m inside t (ap (λ (v : CoreView). v.held) e) runs now_core)

-- where it was found that none is permitted, the module is not asking
pub stored_then : {p : Plan} {s : Engine} {runs : List (Option ModuleRun)} {wiring : Wiring}
    {unread : List Unread} {due : DueModules} {candidates : List Candidate} → IsStoredCore p s runs wiring unread due candidates → (m : ℕ)
    → m < length p.design.modules → (idle : Bool) → (idle ≡ true → IsIdle (design p) p.cycles (core_in p s) m) → (now : DueModules)
    → (idle ≡ false → now ≡ due) → (idle ≡ true → IsRemoved due.asking m now.asking) → now.running ≡ due.running
    → (idle ≡ true → IsAdded due.unlisted m now.unlisted) → IsStoredCore p s runs wiring unread now candidates
stored_then k m inside true is now none removed same added = stored_unasked k m inside (is refl) now (removed refl) same (added refl)
stored_then k m inside false is now none removed same added = rw (none refl) k
