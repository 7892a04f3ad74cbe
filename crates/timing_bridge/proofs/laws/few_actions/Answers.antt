use Rattle.event_timing.proofs.ActionBound.{few_actions}
use Rattle.timing_bridge.specs.{design, lockstep_run}
use Rattle.timing_bridge.proofs.{Bounded.plan_is_bounded, History.plan_is_design, History.run_is_history}
use Rattle.timing_bridge.proofs.laws.few_actions.Goals as goal

pub returns : goal.returns
returns c = λ p h limit actions x s. few_actions (design p) (lockstep_run p) (plan_is_design p h) (run_is_history p h) limit p.ops
    (plan_is_bounded p h) actions x s
