use Rattle.std.proofs.Common.{◌≡◌, ◌-◌, ◌≤◌}
use Rattle.sim_core.specs.{AreUntimable}
use Rattle.sim_core.proofs.machine.Core.time_from.Given as goal

-- of none so far, and nothing has changed
abbrev pub invariant-loop-owner : goal.invariant-loop-owner
invariant-loop-owner g l = record {
  same : l.self ≡ l.initial.self;
  ticks : l.steps ≡ l.initial.steps;
  none : AreUntimable l.self l.from l.at;
  after : l.from ≤ l.at;
}

abbrev pub decreases-loop-owner : goal.decreases-loop-owner
decreases-loop-owner g l = l.to - l.at
