use Rattle.std.proofs.Common.{◌≡◌, ℕ}
use Rattle.turn_lock.specs.Views.{after_lost_tries}
use Rattle.turn_lock.proofs.pass.TurnLock.take.Given as goal

abbrev pub invariant-loop : goal.invariant-loop
invariant-loop g l = (l.pass.seat.table_id ≡ l.initial.pass.seat.table_id)
    × ((k : ℕ) × (l.pass.seat.me.0 ≡ after_lost_tries k l.initial.pass.seat.me.0))
