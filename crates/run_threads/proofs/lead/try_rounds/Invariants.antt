use Rattle.std.proofs.Common.{◌≡◌, length}
use Rattle.run_threads.specs.{AreSlots}
use Rattle.run_threads.proofs.lead.try_rounds.Given as goal

abbrev pub invariant-loop-runs : goal.invariant-loop-runs
invariant-loop-runs g l = (length l.slots.items ≡ length l.initial.slots.items) × AreSlots l.crew.hub.now l.slots.items

abbrev pub decreases-loop-runs : goal.decreases-loop-runs
decreases-loop-runs g l = l.left
