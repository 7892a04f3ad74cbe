use Rattle.std.proofs.Common.{◌≡◌, drop}
use Rattle.std.specs.{Prelude.◌||◌, List.list_any}
use Rattle.flow_check.specs.{Port, used_port, uses, is_port, has}
use Rattle.flow_check.proofs.ports.ports_of.Given as goal

abbrev pub invariant-loop-block : goal.invariant-loop-block
invariant-loop-block l = (a : Port)
    → (has l.ports a || list_any (λ b. list_any (λ t. is_port a (used_port t.op)) b.ops) (drop l.block-index l.of.blocks)) ≡ uses a l.of
