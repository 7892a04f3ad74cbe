use Rattle.timing_bridge.proofs.{Bounded.plan_is_bounded, History.plan_is_design, History.run_is_history}
use Rattle.timing_bridge.proofs.laws.plans_are_designs.Goals as goal

pub returns-clause-design : goal.returns-clause-design
returns-clause-design c = plan_is_design

pub returns-clause-history : goal.returns-clause-history
returns-clause-history c = run_is_history

pub returns-clause-bounded : goal.returns-clause-bounded
returns-clause-bounded c = plan_is_bounded
