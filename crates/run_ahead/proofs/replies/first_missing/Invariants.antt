use Rattle.std.proofs.Common.{◌≡◌, ◌-◌, ◌≤◌, length}
use Rattle.run_ahead.proofs.Finding.{IsSeeking}
use Rattle.run_ahead.proofs.replies.first_missing.Given as goal

-- so many are left, and the first that is missing is among them
abbrev pub invariant-loop-access : goal.invariant-loop-access
invariant-loop-access g l = record {
  left : l.left ≡ length l.access-iterator;
  some : l.left ≤ l.count;
  missing : IsSeeking l.outcomes (g.V.Values.value l.values) l.told l.accesses l.next (l.count - l.left) l.access-iterator;
}
