-- The candidate of a module that is neither asking nor unlisted is right, whatever was done.
use Rattle.std.proofs.Common.{◌≡◌, refl, sym, ap, subst, ◌∙◌, ℕ, ◌<◌, inl, inr, true, arith, List, [], length, None, Some}
use Rattle.std.specs.Prelude.{slice_index_or}
use Rattle.sim_core.specs.{Plan, ModuleState, FitsEngine, Mask, Has, HasMask, IsAdded, Candidate, determined_cycle, IsDetermined, ActsAll}
use Rattle.sim_core.specs.{IsQuiet, runs, view, candidate, IsAgreed, design, lockstep_run, after_timing, Guard, is_progress, Timing}
use Rattle.sim_core.specs.{DueModules, AreListed, IsListed, HasTurned, HasAnsweredLeast, CoreView, theory_of, IsFull, Lacks, SetHasRoom}
use Rattle.sim_core.specs.{AreAsking, AreBeside}
use Rattle.event_graph.specs.declared.candidate.Candidate.TheVariants.{Nothing}
use Rattle.event_timing.specs.Core.{Core}
use Rattle.timing_bridge.proofs.{History.plan_is_design, History.run_is_history, Apart.candidate_apart, Apart.candidates_apart}
use Rattle.timing_bridge.proofs.Onward.{assigned_is, answered_is, idle_is, opened_is}
use Rattle.sim_core.proofs.Asking.{still_room}
use Rattle.outcome_guard.specs.declared.guard.Guard.TheVariants as guard
use Rattle.engine_view.specs.declared.turn.Timing.TheVariants as turn

pub listed_all : (p : Plan) (x : Core ModuleState) (due : DueModules) (candidates : List Candidate)
    → length candidates ≡ length p.design.modules
    → SetHasRoom p due.unlisted → SetHasRoom p due.asking → IsFull due.asking → AreListed p x due candidates
listed_all p x due candidates count room all full = record {
  count = count;
  room = room;
  right = λ n l (asks, listed) cycle. absurd (asks (full n (omega arith)));
}

-- where no candidate has a cycle, none of those listed is determined
pub none_listed : (p : Plan) (x : Core ModuleState) (due : DueModules) (candidates : List Candidate) → AreListed p x due candidates
    → ((k : ℕ) (d : Candidate) → k < length candidates → determined_cycle (slice_index_or candidates k d) ≡ None) → (n : ℕ)
    → n < length p.design.modules → IsListed due n → (c : ℕ) → IsDetermined (design p) p.cycles x n c → ⊥
none_listed p x due candidates are none n l listed c determined =
    let count = are.count in
    no_cycle (sym (none n Nothing (omega arith)) ∙ ap determined_cycle ((are.right n l listed c).1 determined))
  where
    no_cycle : None ≡ Some c → ⊥
    no_cycle e = cc

-- where nothing is permitted, none is asking
pub asking_none : (p : Plan) (x : Core ModuleState) → IsQuiet (design p) p.cycles x → (asking : List ℕ) → SetHasRoom p asking
    → AreAsking p x asking
asking_none p x quiet asking room = record {
  room = room;
  idle = λ n l none. idle_is (design p) p.cycles x n (quiet.no_assign n) (quiet.no_answer n);
}

module _ (p : Plan) (x : Core ModuleState) (due : DueModules) (candidates : List Candidate) (are : AreListed p x due candidates) where
  -- of each that is listed still the same is determined
  unfoldable pub IsStaying : Core ModuleState → DueModules → Type 0
  IsStaying y now = (n : ℕ) → n < length p.design.modules → IsListed now n
      → IsListed due n × (candidate (design p) (view (design p) y) n ≡ candidate (design p) (view (design p) x) n)

  pub listed_by : (y : Core ModuleState) (now : DueModules) → length now.unlisted ≡ length due.unlisted → IsStaying y now
      → AreListed p y now candidates
  unfolding IsStaying
  listed_by y now roomed stays = record {
    count = are.count;
    room = still_room p due.unlisted now.unlisted roomed are.room;
    right = λ n l listed cycle.
        let (before, same) = stays n l listed in
        let (to, from) = are.right n l before cycle in (
          λ e. let there = to e in record { at = same ∙ there.at; below = there.below },
          λ there. from (record { at = sym same ∙ there.at; below = there.below }),
        );
  }

  pub listed_fewer : (now : DueModules) → length now.unlisted ≡ length due.unlisted
      → ((n : ℕ) → n < length p.design.modules → IsListed now n → IsListed due n) → AreListed p x now candidates
  unfolding IsStaying
  listed_fewer now roomed fewer = listed_by x now roomed (λ n l listed. (fewer n l listed, refl))

  -- ---- Runs

  module _ (m : ℕ) (now : DueModules) (room : SetHasRoom p due.asking) (added : IsAdded due.asking m now.asking)
      (same : now.unlisted ≡ due.unlisted) where
    was_listed : (n : ℕ) → IsListed now n → IsListed due n
    was_listed n (asks, listed) = (λ h. asks ((added.has n).1 (inl h)), rw same at listed)

    pub listed_ran : FitsEngine p → IsAgreed (design p) (lockstep_run p) p.cycles x → (count : ℕ) (y : Core ModuleState)
        → ActsAll (design p) p.cycles x (runs count m) y → AreListed p y now candidates
    unfolding IsStaying
    listed_ran fits agreed count y acts =
        listed_by y now (ap (λ (set : List ℕ). length set) same) (λ n l listed. (
          was_listed n listed,
          candidates_apart (design p) (lockstep_run p) (plan_is_design p fits) (run_is_history p fits) p.cycles m n
              (λ e. listed.0 ((added.has n).1 (inr (e, (omega arith))))) x agreed count y acts,
        ))

-- ---- a turn at a module, and an Earliest

module _ (v w : CoreView) (due : DueModules) (candidates : List Candidate) (are : AreListed v.plan (theory_of v) due candidates)
    (beside : List (List Mask)) (besides : AreBeside v.plan beside) (m : ℕ) (inside : m < length v.plan.design.modules) (now : DueModules)
    (roomed : length now.unlisted ≡ length due.unlisted)
    (fewer : (n : ℕ) → n < length v.plan.design.modules → IsListed now n → IsListed due n) where
  module _ (own : Has now.asking m)
      (spread : (n : ℕ) → n < length v.plan.design.modules → Lacks now.asking n → HasMask (slice_index_or beside m []) n → ⊥) where
    listed_timed : (y : Core ModuleState) → y ≡ after_timing (design v.plan) v.plan.cycles (theory_of v) m
        → AreListed v.plan y now candidates
    unfolding IsStaying
    listed_timed y is =
        listed_by v.plan (theory_of v) due candidates are y now roomed (λ n l listed. (
          fewer n l listed,
          ap (λ (z : Core ModuleState). candidate (design v.plan) (view (design v.plan) z) n) is
              ∙ candidate_apart (design v.plan) v.plan.cycles (theory_of v) m n (λ e. listed.0 (subst (Has now.asking) (sym e) own))
              (besides.apart m inside n l (spread n l listed.0)),
        ))

  listed_same : theory_of w ≡ theory_of v → AreListed v.plan (theory_of w) now candidates
  listed_same same =
      subst (λ (y : Core ModuleState). AreListed v.plan y now candidates) (sym same)
      (listed_fewer v.plan (theory_of v) due candidates are now roomed fewer)

  pub listed_turned : (r : Timing) → HasTurned r v m w → (is_progress r ≡ true → Has now.asking m)
      → (is_progress r ≡ true → (n : ℕ) → n < length v.plan.design.modules → Lacks now.asking n
      → HasMask (slice_index_or beside m []) n → ⊥) → AreListed v.plan (theory_of w) now candidates
  listed_turned (turn.Assigned c) (e, may, is) own spread =
      listed_timed (own refl) (spread refl) (theory_of w) (is ∙ sym (assigned_is (design v.plan) v.plan.cycles (theory_of v) m e may).1)
  listed_turned (turn.Answered c) ((e, may, inl (same, is)), changed, next) own spread =
      listed_timed (own refl) (spread refl) (theory_of w) (is ∙ sym (answered_is (design v.plan) v.plan.cycles (theory_of v) m e may).1)
  listed_turned (turn.Answered c) ((e, may, inr (other, is)), changed, next) own spread = absurd (changed is)
  listed_turned (turn.Differs q) (same, different) own spread = listed_same (ap theory_of same)
  listed_turned turn.Nothing (same, idle) own spread = listed_same (ap theory_of same)

  pub listed_least : (g : Guard) → HasAnsweredLeast (Some (m, g)) v w → Has now.asking m
      → ((n : ℕ) → n < length v.plan.design.modules → Lacks now.asking n → HasMask (slice_index_or beside m []) n → ⊥)
      → AreListed v.plan (theory_of w) now candidates
  listed_least guard.Same ((e, may, inl (same, is)), changed) own spread =
      listed_timed own spread (theory_of w)
      (is ∙ sym (opened_is (design v.plan) v.plan.cycles (theory_of v) m e may.open_step.determined.at may.open_step.open_query))
  listed_least guard.Same ((e, may, inr (other, is)), changed) own spread = absurd (changed is)
  listed_least (guard.Differs q) (same, found) own spread = listed_same (ap theory_of same)
