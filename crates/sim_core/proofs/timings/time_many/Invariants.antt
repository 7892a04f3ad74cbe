use Rattle.std.specs.Prelude.{◌≡◌, ◌≤◌, ◌<◌, ◌+◌, ◌-◌}
use Rattle.sim_core.specs.{ForEachCore, IsHeldOf, TimesOn, view_in}
use Rattle.sim_core.proofs.timings.time_many.Given as goal

abbrev pub invariant-loop-cycles : goal.invariant-loop-cycles
invariant-loop-cycles g l = record {
  held : ForEachCore (λ p runs. IsHeldOf p l.fn.engine runs l.owner l.limit) (λ p runs. IsHeldOf p l.engine runs l.owner l.limit);
  ends : l.engine.ends ≡ l.fn.engine.ends;
  none : l.cycles ≡ 0 → l.engine ≡ l.fn.engine;
  some : 0 < l.cycles → ForEachCore (λ p runs. IsHeldOf p l.fn.engine runs l.owner l.limit)
      (λ p runs. TimesOn (view_in p l.fn.engine runs) l.fn.steps l.owner l.answers (view_in p l.engine runs) l.steps);
  ticks : l.steps ≡ l.fn.steps + l.cycles;
  few : l.answers ≤ l.cycles;
  most : l.cycles ≤ l.most;
}

abbrev pub decreases-loop-cycles : goal.decreases-loop-cycles
decreases-loop-cycles g l = l.most - l.cycles
