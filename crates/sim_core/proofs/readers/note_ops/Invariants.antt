use Rattle.std.proofs.Common.{drop}
use Rattle.std.specs.List.{list_any}
use Rattle.sim_core.specs.{used_port, port_at, is_port, IsNoting}
use Rattle.sim_core.proofs.readers.note_ops.Given as goal

abbrev pub invariant-loop-timed : goal.invariant-loop-timed
invariant-loop-timed l =
    IsNoting l.none l.owner (λ c. list_any (λ t. is_port (port_at l.side c) (used_port t.op)) (drop l.timed-index l.ops))
    (λ c. list_any (λ t. is_port (port_at l.side c) (used_port t.op)) l.ops) l.initial.users l.users
