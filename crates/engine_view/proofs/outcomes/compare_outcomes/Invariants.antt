use Rattle.std.specs.Prelude.{◌≡◌, ◌++◌, length}
use Rattle.engine_view.specs.{log_at}
use Rattle.engine_view.proofs.Comparing.{ComparesOn}
use Rattle.engine_view.proofs.outcomes.compare_outcomes.Given as goal

abbrev pub invariant-loop-access : goal.invariant-loop-access
invariant-loop-access l =
    (l.step.accesses ≡ l.yielded ++ l.access-iterator)
    × ComparesOn l.graph.lanes l.fifos.channels l.cycle l.step.accesses (log_at l.log.logs l.owner).outcomes l.step.first_query
    (length l.yielded) l.number
