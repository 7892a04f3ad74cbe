use Rattle.std.proofs.Common.{◌-◌, length}
use Rattle.sim_core.specs.{AreUnrunnable}
use Rattle.sim_core.proofs.machine.Core.any_may_run.Given as goal

-- of no module so far
abbrev pub invariant-loop-owner : goal.invariant-loop-owner
invariant-loop-owner l = AreUnrunnable l.self 0 l.from

abbrev pub decreases-loop-owner : goal.decreases-loop-owner
decreases-loop-owner l = length l.self.plan.design.modules - l.from
