use Rattle.std.proofs.Common.{◌≡◌, [], replicate}
use Rattle.sim_core.proofs.wiring.no_ports.Given as goal

abbrev pub invariant-loop : goal.invariant-loop
invariant-loop l = l.ports ≡ replicate l.counter []
