use Rattle.std.proofs.Common.{drop}
use Rattle.std.specs.List.{list_any}
use Rattle.sim_core.specs.{used_port, port_at, uses, is_port, IsNoting}
use Rattle.sim_core.proofs.readers.note_module.Given as goal

abbrev pub invariant-loop-block : goal.invariant-loop-block
invariant-loop-block l =
    IsNoting l.none l.owner
    (λ c. list_any (λ b. list_any (λ t. is_port (port_at l.side c) (used_port t.op)) b.ops) (drop l.block-index l.of.blocks))
    (λ c. uses (port_at l.side c) l.of) l.initial.users l.users
