use Rattle.std.proofs.Common.{◌≡◌, ℕ, ◌<◌, ◌-◌, ◌⊎◌, length}
use Rattle.sim_core.specs.{Has, capacity, IsReady}
use Rattle.sim_core.proofs.machine.Core.add_ready.Given as goal

-- those below this one are there, and no others
abbrev pub invariant-loop-owner : goal.invariant-loop-owner
invariant-loop-owner l = record {
  same : l.self ≡ l.initial.self;
  ready : (n : ℕ) → n < l.from → n < capacity l.initial.ready → IsReady l.self n → Has l.ready n;
  kept : (n : ℕ) → Has l.initial.ready n → Has l.ready n;
  only : (n : ℕ) → Has l.ready n → Has l.initial.ready n ⊎ IsReady l.self n;
  room : length l.ready ≡ length l.initial.ready;
}

abbrev pub decreases-loop-owner : goal.decreases-loop-owner
decreases-loop-owner l = length l.self.plan.design.modules - l.from
