use Rattle.std.proofs.Common.{◌≡◌, drop}
use Rattle.std.specs.{Prelude.◌||◌, List.list_any}
use Rattle.flow_check.specs.{Port, used_port, is_port, has}
use Rattle.flow_check.proofs.ports.add_ports.Given as goal

-- the ports so far, and those of the operations left, are all
abbrev pub invariant-loop-timed : goal.invariant-loop-timed
invariant-loop-timed l = (a : Port)
    → (has l.ports a || list_any (λ t. is_port a (used_port t.op)) (drop l.timed-index l.ops))
    ≡ (has l.initial.ports a || list_any (λ t. is_port a (used_port t.op)) l.ops)
