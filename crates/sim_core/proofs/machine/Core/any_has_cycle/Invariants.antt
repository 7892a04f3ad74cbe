use Rattle.std.proofs.Common.{ℕ, ◌<◌, ◌-◌}
use Rattle.sim_core.specs.{IsDetermined, design, theory_of}
use Rattle.sim_core.proofs.machine.Core.any_has_cycle.Given as goal

-- of no module so far
abbrev pub invariant-loop-owner : goal.invariant-loop-owner
invariant-loop-owner l = (m c : ℕ) → m < l.from → IsDetermined (design l.self.plan) l.self.plan.cycles (theory_of l.self) m c → ⊥

abbrev pub decreases-loop-owner : goal.decreases-loop-owner
decreases-loop-owner l = l.count - l.from
