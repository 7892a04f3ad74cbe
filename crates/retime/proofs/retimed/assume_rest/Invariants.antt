use Rattle.std.proofs.Common.{◌≡◌}
use Rattle.retime.specs.{AreAssumed}
use Rattle.retime.proofs.retimed.assume_rest.Given as goal

abbrev pub invariant-loop-owner : goal.invariant-loop-owner
invariant-loop-owner l = AreAssumed l.graph.lanes l.initial.log.logs l.log.logs l.owner × (l.log.rooms ≡ l.initial.log.rooms)
