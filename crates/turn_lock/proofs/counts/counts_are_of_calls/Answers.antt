use Rattle.turn_lock.proofs.Leading.{turns_led, lost_led}
use Rattle.turn_lock.proofs.counts.counts_are_of_calls.Goals as goal

pub returns : goal.returns
returns g c = record { turns = turns_led g.K.Kept.bearer; lost = lost_led g.K.Kept.bearer }
