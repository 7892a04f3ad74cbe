use Rattle.cycle_changes.proofs.OtherHeld.{other_now, other_room}
use Rattle.cycle_changes.proofs.look_laws.other_cycles_are_held.Goals as goal

pub returns-clause-now : goal.returns-clause-now
returns-clause-now g c = λ d h k e inside is_fifo other o. other_now d h other e k inside is_fifo o

pub returns-clause-room : goal.returns-clause-room
returns-clause-room g c = λ d h k e inside is_fifo other o. other_room d h other e k inside is_fifo o
