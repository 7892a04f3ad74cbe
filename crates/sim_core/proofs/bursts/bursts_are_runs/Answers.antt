use Rattle.event_timing.proofs.Beside.{others_grow}
use Rattle.sim_core.specs.{design, lockstep_run}
use Rattle.timing_bridge.proofs.History.{plan_is_design, run_is_history}
use Rattle.sim_core.proofs.Tasks.{task_for, task_stays, burst_runs, burst_has_marks}
use Rattle.sim_core.proofs.bursts.bursts_are_runs.Goals as goal

pub returns : goal.returns
returns c = record {
  lent = λ p x m task t. task_for p x m task t;
  kept = λ p f x g m task t actions o y acts.
      task_stays p x y g.marks m
      (others_grow (design p) (lockstep_run p) (plan_is_design p f) (run_is_history p f) p.cycles x g m actions o y acts) task t;
  runs = λ p f x g m task burst t i. let r = burst_runs p f x g.marks m task burst t i in (r.core, r.acts, r.stands);
  marks = λ p f x g m task burst t i s. burst_has_marks p f x g.marks m task burst t i s;
}
