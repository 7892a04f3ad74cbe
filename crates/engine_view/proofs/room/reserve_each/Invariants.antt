use Rattle.engine_view.proofs.Reserving.{ReservesEachOn}
use Rattle.engine_view.proofs.room.reserve_each.Given as goal

abbrev pub invariant-loop-at : goal.invariant-loop-at
invariant-loop-at l = ReservesEachOn l.ports l.places l.initial.fifos l.fifos l.at
