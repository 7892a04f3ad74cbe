use Rattle.port_clocks.proofs.Most.{IsMostOf}
use Rattle.port_clocks.proofs.leads.most_ahead.Given as goal

abbrev pub invariant-loop-at : goal.invariant-loop-at
invariant-loop-at l = IsMostOf l.first l.second l.at l.most
