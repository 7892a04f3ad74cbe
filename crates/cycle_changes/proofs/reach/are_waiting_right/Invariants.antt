use Rattle.std.proofs.Common.{◌≡◌, ◌++◌}
use Rattle.std.specs.Prelude.{All}
use Rattle.cycle_changes.specs.{side_of, other_side, Access, held_in, AreLooked, WaitsAt}
use Rattle.cycle_changes.proofs.reach.are_waiting_right.Given as goal

abbrev pub invariant-loop-access : goal.invariant-loop-access
invariant-loop-access l =
    (l.initial.access-iterator ≡ l.yielded ++ l.access-iterator)
    × All (λ (a : Access). AreLooked (held_in l.engine) (WaitsAt l.engine.fifos.channels (other_side (side_of a.kind)) a.channel l.at))
    l.yielded
