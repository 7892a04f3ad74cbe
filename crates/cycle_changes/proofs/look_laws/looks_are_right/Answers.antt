use Rattle.cycle_changes.proofs.RightLooks.{look_is}
use Rattle.cycle_changes.proofs.look_laws.looks_are_right.Goals as goal

pub returns : goal.returns
returns g c = λ d i h y m k l. look_is d i h y m k l
