use Rattle.port_clocks.proofs.Filled.{one_list, fill_told}
use Rattle.port_clocks.proofs.laws.clocks_tell_fills.Goals as goal

pub returns-clause-one : goal.returns-clause-one
returns-clause-one c = one_list

pub returns-clause-fills : goal.returns-clause-fills
returns-clause-fills c = fill_told
