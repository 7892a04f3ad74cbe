-- Runs of one module, one after the other.
use Rattle.std.proofs.Common.{◌≡◌, refl, sym, ap, subst, ℕ, zero, suc, ◌+◌, ◌<◌, Bool, true, false, List, [], ◌∷◌, inl, inr, length, get_or}
use Rattle.std.proofs.Common.{set, Option, None, Some, is_some, is_none, arith}
use Rattle.std.proofs.{lemmas.List.length-map, lemmas.Bool.cases_lt}
use Rattle.sim_core.specs.{Plan, FitsEngine, ModuleState, ModuleRun, Design, IsAgreed, work, Acts, ActsAll, runs, design, lockstep_run}
use Rattle.sim_core.specs.{Engine, held_in, given, Goes, GoesOn, core_in, CoreView, theory_of, DueModules, Wiring, IsSpread, IsCore}
use Rattle.sim_core.specs.{IsRunOf, IsStoredCore, lent_of, HasDoneRuns, IsHeldAlike, IsRunOut, Candidate, IsAdded}
use Rattle.sim_core.specs.declared.unread.Unread.{Unread}
use Rattle.event_timing.specs.{Core.Core, Actions.Action.Run}
use Rattle.event_timing.proofs.{Agreement.acts_agree, ActionBound.more_work}
use Rattle.timing_bridge.proofs.History.{plan_is_design, run_is_history}
use Rattle.engine_view.specs.Held.{Held}
use Rattle.std.specs.Prelude.{slice_index_or, Result, Ok, Err, OnErr}
use Rattle.sim_core.proofs.Lending as lending
use Rattle.sim_core.proofs.Roomed as roomed
use Rattle.sim_core.proofs.Rounds as rounds

pub on_err : {A E : Type 0} {P : Type 0} (r : Result A E) → P → OnErr r P
on_err {A} {E} {P} (Ok a) p = tt
on_err {A} {E} {P} (Err e) p = p

-- ---- lists of Runs

-- one Run more
run_after : {S : Type 0} (d : Design S) (limit : ℕ) (m n : ℕ) (x y z : Core S) → ActsAll d limit x (runs n m) y
    → Acts d limit y (Run m) z → ActsAll d limit x (runs (suc n) m) z
run_after {S} d limit m zero x y z e a = (z, subst (λ (q : Core S). Acts d limit q (Run m) z) e a, refl)
run_after {S} d limit m (suc n) x y z (w, first, rest) a = (w, first, run_after d limit m n w y z rest a)

pub runs_more : {S : Type 0} (d : Design S) (limit : ℕ) (m n : ℕ) (x y z : Core S) → ActsAll d limit x (runs n m) y
    → Acts d limit y (Run m) z → ActsAll d limit x (runs (n + 1) m) z
runs_more {S} d limit m n x y z front a =
    subst (λ (k : ℕ). ActsAll d limit x (runs k m) z) (let e : suc n ≡ n + 1 = omega arith in e) (run_after d limit m n x y z front a)

-- no Run gives a step its cycle
none_given : (n m : ℕ) → given (runs n m) ≡ 0
none_given zero m = refl
none_given (suc n) m = none_given n m

-- each Run is some work
some_work : (p : Plan) → {x : Core ModuleState} → IsAgreed (design p) (lockstep_run p) p.cycles x → {y : Core ModuleState} (m : ℕ)
    → Acts (design p) p.cycles x (Run m) y → work (design p) x < work (design p) y
some_work p {x} agreed {y} m (may, is) =
    elim (more_work (design p) (lockstep_run p) p.cycles x agreed (Run m) y (may, is)) [
      | inl e ↦ absurd (rounds.run_changes (design p) x y m may is e)
      | inr u ↦ u
    ]

-- so are one or more of them
all_work : (p : Plan) → FitsEngine p → (n m : ℕ) (x y : Core ModuleState) → IsAgreed (design p) (lockstep_run p) p.cycles x
    → ActsAll (design p) p.cycles x (runs (suc n) m) y → work (design p) x < work (design p) y
all_work p fits zero m x y agreed (z, acts, e) = rw e (some_work p agreed m acts)
all_work p fits (suc n) m x y agreed (z, acts, rest) =
    let first = some_work p agreed m acts in
    let later = all_work p fits n m z y
    (acts_agree (design p) (lockstep_run p) (plan_is_design p fits) (run_is_history p fits) p.cycles x agreed (Run m) z acts) rest in
    omega arith

module _ {v w : CoreView} {m count : ℕ} (ran : HasDoneRuns v m count w) where
  pub ran_goes : (n : ℕ) → Goes v n w n
  ran_goes n = record {
    actions = runs count m;
    all = ran.acts;
    ticked = let none = none_given count m in omega arith;
    plan = ran.plan;
    lent = ran.lent;
  }

  pub ran_on : FitsEngine v.plan → IsAgreed (design v.plan) (lockstep_run v.plan) v.plan.cycles (theory_of v) → 0 < count → (n : ℕ)
      → GoesOn v n w n
  ran_on fits agreed some n = record { goes = ran_goes n; risen = more count refl some }
    where
      more : (k : ℕ) → k ≡ count → 0 < k → work (design v.plan) (theory_of v) < work (design v.plan) (theory_of w)
      more zero e l = absurd (omega (arith, l))
      more (suc k) e l =
          all_work v.plan fits k m (theory_of v) (theory_of w) agreed
          (subst (λ (i : ℕ). ActsAll (design v.plan) v.plan.cycles (theory_of v) (runs i m) (theory_of w)) (sym e) ran.acts)

  -- just one
  pub ran_once : count ≡ 1 → Acts (design v.plan) v.plan.cycles (theory_of v) (Run m) (theory_of w)
  ran_once e =
      one (subst (λ (i : ℕ). ActsAll (design v.plan) v.plan.cycles (theory_of v) (runs i m) (theory_of w)) e ran.acts)
    where
      one : ActsAll (design v.plan) v.plan.cycles (theory_of v) (runs 1 m) (theory_of w)
          → Acts (design v.plan) v.plan.cycles (theory_of v) (Run m) (theory_of w)
      one (z, acts, e) = subst (Acts (design v.plan) v.plan.cycles (theory_of v) (Run m)) (sym e) acts

-- ---- what is held

abbrev pub view_of : Plan → Held → List Bool → CoreView
view_of p h lent = record { plan = p; held = h; lent = lent }

view_same : (p : Plan) {g h : Held} {a b : List Bool} → h ≡ g → b ≡ a → view_of p h b ≡ view_of p g a
view_same p e f = rw (e, f) refl

module _ {p : Plan} {s : Engine} {runs : List (Option ModuleRun)} (k : IsCore p s runs) {m : ℕ}
    (inside : m < length p.design.modules) where
  pub ends_inside : m < length s.ends.items
  ends_inside = let a = k.sound.overs in let b = length-map s.ends.items is_some in omega arith

  pub log_inside : m < length s.log.logs
  log_inside = let a = k.sound.logs in omega arith

-- ---- a run that is taken out of the list, and put back

set_twice : (runs : List (Option ModuleRun)) (m : ℕ) (a b : Option ModuleRun) → set (set runs m a) m b ≡ set runs m b
set_twice [] m a b = refl
set_twice (r ∷ rs) zero a b = refl
set_twice (r ∷ rs) (suc m) a b = ap (λ (more : List (Option ModuleRun)). r ∷ more) (set_twice rs m a b)

-- another run in the place of one that was there
lent_still : (runs : List (Option ModuleRun)) (m : ℕ) (run : ModuleRun) → get_or (lent_of runs) m true ≡ false
    → lent_of (set runs m (Some run)) ≡ lent_of runs
lent_still [] m run e = refl
lent_still (None ∷ rs) zero run e = absurd (cc)
lent_still (Some r ∷ rs) zero run e = refl
lent_still (r ∷ rs) (suc m) run e = ap (λ (more : List Bool). is_none r ∷ more) (lent_still rs m run e)

not_none : (runs : List (Option ModuleRun)) (m : ℕ) → get_or (lent_of runs) m true ≡ false → get_or runs m None ≡ None → ⊥
not_none [] m e f = cc
not_none (None ∷ rs) zero e f = cc
not_none (Some r ∷ rs) zero e f = cc
not_none (r ∷ rs) (suc m) e f = not_none rs m e f

-- a run that is not lent is there, and can be out
pub is_there : {p : Plan} {s : Engine} {runs : List (Option ModuleRun)} → IsCore p s runs → (m : ℕ)
    → m < length p.design.modules → get_or (lent_of runs) m true ≡ false → IsRunOut p s (set runs m None) m (get_or runs m None)
is_there {p} {s} {runs} k m inside here = go (get_or runs m None) refl
  where
    go : (o : Option ModuleRun) → get_or runs m None ≡ o → IsRunOut p s (set runs m None) m o
    go None e = absurd (not_none runs m here e)
    go (Some run) e = record {
      core = lending.core_lent p s runs m None k (let n = k.sound.lanes in omega arith)
          (λ other q. let no : None ≡ Some other = q in cc);
      inside = inside;
      lent = lending.lent_set runs m;
      run_is = k.runs_are m run e;
    }

-- and come back
module _ (p : Plan) (s : Engine) (runs : List (Option ModuleRun)) (m : ℕ) where
  pub core_back : (o : Option ModuleRun) → IsRunOut p s (set runs m None) m o → IsCore p s (set runs m o)
  core_back None out = absurd out
  core_back (Some run) out =
      subst (λ (rs : List (Option ModuleRun)). IsCore p s rs) (set_twice runs m None (Some run))
      (lending.core_lent p s (set runs m None) m (Some run) out.core
      (let n = out.core.sound.lanes in let i = out.inside in omega arith)
      (λ other q. subst (IsRunOf p (core_in p s) m) (lending.same_some run other q) out.run_is))

  pub lent_back : (o : Option ModuleRun) → IsRunOut p s (set runs m None) m o → get_or (lent_of runs) m true ≡ false
      → lent_of (set runs m o) ≡ lent_of runs
  lent_back None out here = absurd out
  lent_back (Some run) out here = lent_still runs m run here

-- ---- what a stretch of Runs leaves of all that a core keeps

module _ {p : Plan} {s : Engine} {all : List (Option ModuleRun)} {wiring : Wiring} {unread : List Unread}
    {due : DueModules} {candidates : List Candidate} (k : IsStoredCore p s all wiring unread due candidates) (m : ℕ)
    (inside : m < length p.design.modules) (here : get_or (lent_of all) m true ≡ false) (f : Engine)
    (held : Option ModuleRun) (out : IsRunOut p f (set all m None) m held) (count : ℕ)
    (acts : ActsAll (design p) p.cycles (core_in p s) (runs count m) (core_in p f))
    (none : count ≡ 0 → IsHeldAlike s f) where
  -- the sets are large enough
  pub stored_after : (now : DueModules) → (count ≡ 0 → now ≡ due) → (0 < count → IsAdded due.asking m now.asking)
      → (0 < count → IsSpread due.running (slice_index_or wiring.hints m []) m now.running) → now.unlisted ≡ due.unlisted
      → IsStoredCore p f (set all m held) wiring unread now candidates
  stored_after now same added spread unlisted =
      elim (cases_lt 0 count) [
        | inl l ↦ roomed.stored_ran k m inside f count acts (set all m held) (core_back p f all m held out) unread
            (roomed.unread_ran k m inside f count acts) now (added l) (spread l) unlisted
        | inr l ↦
            let zero_is : count ≡ 0 = omega arith in
            rw (same zero_is) (roomed.stored_alike k m inside f (none zero_is) (set all m held) (core_back p f all m held out))
      ]

  pub has_run : HasDoneRuns (view_of p (held_in s) (lent_of all)) m count
      (view_of p (held_in f) (lent_of (set all m held)))
  has_run = record {
    acts = acts;
    same = λ e. view_same p (none e) (lent_back p f all m held out here);
    plan = refl;
    lent = lent_back p f all m held out here;
  }
