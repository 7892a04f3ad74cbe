use Rattle.std.proofs.Common.{inl, inr}
use Rattle.clock_machine.proofs.ending.held_with.Goals as goal

pub returns-in_ok-held-in-Deadlock : goal.returns-in_ok-held-in-Deadlock
returns-in_ok-held-in-Deadlock c = elim c.in-Deadlock.is [
  | inl e ↦ rw e.1 (c.in_ok-held-in-Deadlock.ensures e.0)
  | inr e ↦ rw e.1 (c.in_ok-held-in-Deadlock.ensures e.0)
]
