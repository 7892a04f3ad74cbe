use Rattle.std.proofs.Common.{◌≡◌, length}
use Rattle.run_threads.specs.{AreSlots}
use Rattle.run_threads.proofs.lead.try_all.Given as goal

abbrev pub invariant-loop : goal.invariant-loop
invariant-loop g l = (length l.slots.items ≡ length l.initial.slots.items) × AreSlots l.crew.hub.now l.slots.items
