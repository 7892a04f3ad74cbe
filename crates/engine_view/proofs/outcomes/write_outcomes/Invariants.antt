use Rattle.std.specs.Prelude.{◌≡◌, ◌++◌, length}
use Rattle.engine_view.proofs.Writing.{WritesOn}
use Rattle.engine_view.proofs.outcomes.write_outcomes.Given as goal

abbrev pub invariant-loop-access : goal.invariant-loop-access
invariant-loop-access l =
    (l.accesses ≡ l.yielded ++ l.access-iterator)
    × WritesOn l.graph.lanes l.fifos.channels l.cycle l.owner l.accesses l.initial.log l.log (length l.yielded)
