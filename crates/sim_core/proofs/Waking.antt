-- Of a module outside of the sets nothing is permitted, whatever was done.
use Rattle.std.proofs.Common.{◌≡◌, sym, subst, ℕ, ◌<◌, inl, inr, arith, List, [], length, Some}
use Rattle.std.proofs.lemmas.Bool.{cases_eq}
use Rattle.std.specs.Prelude.{slice_index_or}
use Rattle.sim_core.specs.{Plan, ModuleState, Mask, Has, IsRemoved, ActsAll, MayRun, runs, after_assign, after_answer, design, AreApart}
use Rattle.sim_core.specs.{Guard, Timing, DueModules, Lacks, SetHasRoom, AreBeside, CoreView, theory_of, HasTurned, HasAnsweredLeast}
use Rattle.sim_core.specs.{IsStill, AreDue, AreWaking, IsFull, IsOutside, IsSpread, IsWoken}
use Rattle.event_timing.specs.Core.{Core}
use Rattle.timing_bridge.proofs.{RunApart.assign_no_run, RunApart.answer_no_run, RunApart.runs_no_run, Timings.no_timing_at}
use Rattle.sim_core.proofs.Asking.{asking_all, still_room}
use Rattle.outcome_guard.specs.declared.guard.Guard.TheVariants as guard
use Rattle.engine_view.specs.declared.turn.Timing.TheVariants as turn

pub waking_all : (p : Plan) (x : Core ModuleState) (running : List ℕ) → SetHasRoom p running → IsFull running → AreWaking p x running
waking_all p x running room full = record { room = room; none = λ n l lacks. absurd (lacks (full n (omega arith))) }

pub due_all : (p : Plan) (x : Core ModuleState) (due : DueModules) → SetHasRoom p due.asking → IsFull due.asking → SetHasRoom p due.running
    → IsFull due.running → AreDue p x due
due_all p x due room full room' full' = record {
  asking_are = asking_all p x due.asking room full;
  running_are = waking_all p x due.running room' full';
}

-- nothing is permitted of a module outside of both sets
pub still_outside : (v : CoreView) (due : DueModules) → AreDue v.plan (theory_of v) due → (n : ℕ) → n < length v.plan.design.modules
    → IsOutside due n → IsStill v n
still_outside v due are n l (asks, runs) =
    let none = are.asking_are.idle n l asks in
    record {
      no_run = are.running_are.none n l runs;
      idle = record {
        no_assign = λ k. (no_timing_at (design v.plan) v.plan.cycles (theory_of v) n none k).0;
        no_answer = λ k. (no_timing_at (design v.plan) v.plan.cycles (theory_of v) n none k).1;
      };
    }

-- ---- Runs

module _ (p : Plan) (x : Core ModuleState) (running : List ℕ) (are : AreWaking p x running) where
  pub waking_more : (masks : List Mask) (m : ℕ) (now : List ℕ) → IsSpread running masks m now → AreWaking p x now
  waking_more masks m now spread = record {
    room = still_room p running now spread.room are.room;
    none = λ n l lacks. are.none n l (spread.kept n lacks);
  }

  -- a module of which no Run is permitted
  pub waking_less : (m : ℕ) → (MayRun (design p) x m → ⊥) → (now : List ℕ) → IsRemoved running m now → AreWaking p x now
  waking_less m none now removed = record {
    room = still_room p running now removed.room are.room;
    none = λ n l lacks may.
        elim (cases_eq n m) [
          | inl e ↦ none (subst (MayRun (design p) x) e may)
          | inr other ↦ are.none n l (λ h. lacks ((removed.has n).1 (h, other))) may
        ];
  }

  waking_assigned : (m c : ℕ) → AreWaking p (after_assign x m c) running
  waking_assigned m c = record {
    room = are.room;
    none = λ n l lacks may. are.none n l lacks (assign_no_run (design p) x m n c may);
  }

  module _ (beside : List (List Mask)) (besides : AreBeside p beside) (m : ℕ) (inside : m < length p.design.modules) (now : List ℕ)
      (spread : IsSpread running (slice_index_or beside m []) m now) where
    other : (n : ℕ) → Lacks now n → n ≡ m → ⊥
    other n lacks e =
        let room = are.room in
        lacks (subst (Has now) (sym e) (spread.own (omega arith)))

    away : (n : ℕ) → n < length p.design.modules → Lacks now n → AreApart (design p) m n
    away n l lacks =
        let room = are.room in
        besides.apart m inside n l (spread.beside n (omega arith) lacks)

    pub waking_ran : (count : ℕ) (y : Core ModuleState) → ActsAll (design p) p.cycles x (runs count m) y → AreWaking p y now
    waking_ran count y acts = record {
      room = still_room p running now spread.room are.room;
      none = λ n l lacks may.
          are.none n l (spread.kept n lacks)
          (runs_no_run (design p) p.cycles m n (other n lacks) (away n l lacks) x count y acts may);
    }

    waking_answered : (c : ℕ) → AreWaking p (after_answer (design p) x m c) now
    waking_answered c = record {
      room = still_room p running now spread.room are.room;
      none = λ n l lacks may.
          are.none n l (spread.kept n lacks) (answer_no_run (design p) x m n (other n lacks) (away n l lacks) c may);
    }

-- what a turn at a module leaves, and an Earliest
module _ (v w : CoreView) (running : List ℕ) (are : AreWaking v.plan (theory_of v) running) (beside : List (List Mask))
    (besides : AreBeside v.plan beside) (m : ℕ) (inside : m < length v.plan.design.modules) (now : List ℕ) where
  pub waking_turned : (r : Timing) → HasTurned r v m w → IsWoken r running (slice_index_or beside m []) m now
      → AreWaking v.plan (theory_of w) now
  waking_turned (turn.Assigned c) (e, may, is) same =
      subst (λ (y : Core ModuleState). AreWaking v.plan y now) (sym is)
      (subst (AreWaking v.plan _) (sym same) (waking_assigned v.plan (theory_of v) running are m e))
  waking_turned (turn.Answered c) ((e, may, inl (same, is)), changed, next) spread =
      subst (λ (y : Core ModuleState). AreWaking v.plan y now) (sym is)
      (waking_answered v.plan (theory_of v) running are beside besides m inside now spread e)
  waking_turned (turn.Answered c) ((e, may, inr (other, is)), changed, next) spread = absurd (changed is)
  waking_turned (turn.Differs q) (same, different) kept = rw (same, kept) are
  waking_turned turn.Nothing (same, idle) kept = rw (same, kept) are

  pub waking_least : (g : Guard) → HasAnsweredLeast (Some (m, g)) v w → IsSpread running (slice_index_or beside m []) m now
      → AreWaking v.plan (theory_of w) now
  waking_least guard.Same ((e, may, inl (same, is)), changed) spread =
      subst (λ (y : Core ModuleState). AreWaking v.plan y now) (sym is)
      (waking_answered v.plan (theory_of v) running are beside besides m inside now spread e)
  waking_least guard.Same ((e, may, inr (other, is)), changed) spread = absurd (changed is)
  waking_least (guard.Differs q) (same, found) spread =
      rw same (waking_more v.plan (theory_of v) running are (slice_index_or beside m []) m now spread)
