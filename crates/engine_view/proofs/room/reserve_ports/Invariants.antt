use Rattle.engine_view.proofs.Reserving.{ReservesOn}
use Rattle.engine_view.proofs.room.reserve_ports.Given as goal

abbrev pub invariant-loop-port : goal.invariant-loop-port
invariant-loop-port l = ReservesOn l.places l.ports l.initial.fifos l.fifos l.port-index
