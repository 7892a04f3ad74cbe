use Rattle.std.proofs.Common.{◌≡◌, ℕ, ◌+◌, ◌<◌, drop, count_by, length, slice_index}
use Rattle.flow_check.specs.{has, AreAlike, port_at}
use Rattle.flow_check.proofs.users.count_users.Given as goal

-- with the modules that are left they are all counted
abbrev pub invariant-loop-ports : goal.invariant-loop-ports
invariant-loop-ports l = record {
  count : length l.users.items ≡ l.channels;
  each : (c : ℕ) → c < l.channels
      → AreAlike (slice_index l.users.items c + count_by (λ ports. has ports (port_at l.side c)) (drop l.ports-index l.all))
      (count_by (λ ports. has ports (port_at l.side c)) l.all);
}
