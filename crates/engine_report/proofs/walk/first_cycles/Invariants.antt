use Rattle.std.proofs.Common.{◌≡◌, ℕ, map}
use Rattle.std.specs.List.{range_with_len}
use Rattle.engine_report.specs.{next_cycle}
use Rattle.engine_report.proofs.walk.first_cycles.Given as goal

abbrev pub invariant-loop-owner : goal.invariant-loop-owner
invariant-loop-owner l = l.cycles ≡ map (λ (i : ℕ). next_cycle l.graph.lanes i 0) (range_with_len 0 l.owner)
