use Rattle.std.proofs.Common.{drop, count_by}
use Rattle.indexmap.specs.IndexSet.{keys}
use Rattle.flow_check.specs.{same_port, port_at, IsCounting}
use Rattle.flow_check.proofs.users.count_module.Given as goal

abbrev pub invariant-loop-port : goal.invariant-loop-port
invariant-loop-port l =
    IsCounting (λ c. count_by (same_port (port_at l.side c)) (drop l.port-index (keys l.ports)))
    (λ c. count_by (same_port (port_at l.side c)) (keys l.ports)) l.initial.users l.users
