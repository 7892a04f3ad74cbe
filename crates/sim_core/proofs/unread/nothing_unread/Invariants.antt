use Rattle.std.proofs.Common.{ℕ, List}
use Rattle.sim_core.specs.{AreUnread}
use Rattle.sim_core.proofs.unread.nothing_unread.Given as goal

abbrev pub invariant-loop : goal.invariant-loop
invariant-loop l = (all : ℕ → List ℕ) (n : ℕ) → AreUnread all n l.unread
