use Rattle.timing_bridge.proofs.Lending.{turns_beside}
use Rattle.timing_bridge.proofs.turn_laws.lent_runs_stay.Goals as goal

pub returns : goal.returns
returns g c = λ d limit v w q m lent turns o t. turns_beside d limit v w q m lent turns o t
