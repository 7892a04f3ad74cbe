-- A burst on the desk that is out, by the time that it comes back.
use Rattle.std.proofs.Common.{◌≡◌, ℕ, ◌+◌, ◌<◌, sym, subst, arith, false, Some, List, length, inl, inr}
use Rattle.std.proofs.lemmas.Bool.{cases_Bool}
use Rattle.sim_hub.specs.{Plan, ModuleState, FitsEngine, IsAgreed, design, lockstep_run, HubTurn, lent_at, TurnsOf, AreOfOthers, ModuleRun}
use Rattle.sim_hub.specs.{StandsAt, waits, Task, Burst, IsBurst, StandsSomewhere, IsRunOf, rest_after, IsTaskOf, IsTaskFor, steps_committed}
use Rattle.sim_hub.specs.{rest_of, IsBurstOn}
use Rattle.event_timing.specs.Core.{Core}
use Rattle.event_timing.proofs.Beside.{others_grow}
use Rattle.timing_bridge.specs.Turned.{Turned}
use Rattle.timing_bridge.proofs.{History.plan_is_design, History.run_is_history, Lending.turns_beside}
use Rattle.sim_core.proofs.{Committed.committed_waits, Committed.committed_goes, Tasks.task_for, Tasks.task_stays, Tasks.burst_has_marks}

-- a run of a core stands at its rest
pub run_stands : (p : Plan) (x : Core ModuleState) (m : ℕ) (run : ModuleRun) → IsRunOf p x m run
    → StandsAt p m (rest_after p x m (steps_committed x m run)) run
run_stands p x m run r =
    elim (cases_Bool (waits run)) [
      | inl w ↦
          let (k, last, at) = r.waiting w in
          let here : k ≡ steps_committed x m run = omega (arith, committed_waits x m run w) in
          subst (λ (n : ℕ). StandsAt p m (rest_after p x m n) run) here at
      | inr w ↦ subst (λ (n : ℕ). StandsAt p m (rest_after p x m n) run) (sym (committed_goes x m run w)) (r.going w).1
    ]

pub task_runs : (p : Plan) (x : Core ModuleState) (m : ℕ) (task : Task) → IsTaskOf p x m task → StandsSomewhere task.run
task_runs p x m task t = (p, (m, (rest_after p x m (steps_committed x m task.run), run_stands p x m task.run t.run)))

module _ (p : Plan) (f : FitsEngine p) (v w : Turned ModuleState) (m : ℕ) (task : Task) (burst : Burst)
    (g : IsAgreed (design p) (lockstep_run p) p.cycles v.core) (t : IsTaskOf p v.core m task) (b : IsBurstOn task burst) where
  -- what was lent is a task for the core after the turns of others, and the burst is one on it
  pub burst_back : (later : List HubTurn) → AreOfOthers (m + 1) later → TurnsOf (design p) p.cycles v later w
      → lent_at v m ≡ Some (m + 1)
      → IsTaskFor p w.core m task × IsBurst p m (rest_of p w.core m task) task burst
  burst_back later others turns lent =
      let (still, (actions, none, acts)) = turns_beside (design p) p.cycles v w (m + 1) m lent later others turns in
      let now = task_stays p v.core w.core g.marks m
      (others_grow (design p) (lockstep_run p) (plan_is_design p f) (run_is_history p f) p.cycles v.core g m actions none w.core acts)
      task (task_for p v.core m task t) in
      (now, b p m (rest_of p w.core m task) (run_stands p w.core m task.run now.run))

  pub burst_marks : burst.short ≡ false → 0 < length burst.emitted
  burst_marks long =
      burst_has_marks p f v.core g.marks m task burst t (b p m (rest_of p v.core m task) (run_stands p v.core m task.run t.run)) long
