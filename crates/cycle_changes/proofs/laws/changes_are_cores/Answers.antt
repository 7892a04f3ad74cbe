use Rattle.cycle_changes.proofs.SomeCores.{some_core, keeps_room}
use Rattle.cycle_changes.proofs.laws.changes_are_cores.Goals as goal

pub returns : goal.returns
returns c = record {
  core = λ s t edit inside is_fifo o loses. some_core s t edit inside is_fifo o loses;
  room = λ s t edit inside is_fifo o loses. keeps_room s t edit inside is_fifo o loses;
}
