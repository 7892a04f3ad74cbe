use Rattle.std.proofs.Common.{◌≡◌, take, map}
use Rattle.flow_check.specs.{Port, uses, has}
use Rattle.flow_check.proofs.ports.ports_of_each.Given as goal

abbrev pub invariant-loop-of : goal.invariant-loop-of
invariant-loop-of l = (a : Port) → map (λ ports. has ports a) l.all ≡ map (uses a) (take l.of-index l.modules)
