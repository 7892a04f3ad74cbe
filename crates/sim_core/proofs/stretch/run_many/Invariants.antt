use Rattle.std.specs.Prelude.{◌≡◌, ◌≤◌, ◌-◌}
use Rattle.sim_core.specs.{ActsAll, runs, design, core_in, ForEachCore, IsHeldAlike, IsMemberOut, IsOutOf}
use Rattle.sim_core.proofs.stretch.run_many.Given as goal

abbrev pub invariant-loop-runs : goal.invariant-loop-runs
invariant-loop-runs l = record {
  out : ForEachCore (λ p listed. IsMemberOut p l.fn.engine listed l.member l.fn.run)
      (λ p listed. IsOutOf p l.engine listed l.member.number l.run);
  acts : ForEachCore (λ p listed. IsMemberOut p l.fn.engine listed l.member l.fn.run)
      (λ p listed. ActsAll (design p) p.cycles (core_in p l.fn.engine) (runs l.runs l.member.number) (core_in p l.engine));
  none : l.runs ≡ 0 → IsHeldAlike l.fn.engine l.engine;
  most : l.runs ≤ l.most;
}

abbrev pub decreases-loop-runs : goal.decreases-loop-runs
decreases-loop-runs l = l.most - l.runs
