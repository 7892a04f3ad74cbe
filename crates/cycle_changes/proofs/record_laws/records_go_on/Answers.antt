use Rattle.cycle_changes.proofs.Onward.{record_on}
use Rattle.cycle_changes.proofs.record_laws.records_go_on.Goals as goal

pub returns : goal.returns
returns g c = λ d limit x r fifo depth cycles checked below beyond. record_on d limit x r fifo depth cycles checked below beyond
