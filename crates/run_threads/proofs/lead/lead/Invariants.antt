use Rattle.std.proofs.Common.{◌≡◌, length}
use Rattle.run_threads.specs.{IsPerfOf, perf_view, HasMoreTurns, AreSlots}
use Rattle.run_threads.proofs.lead.lead.Given as goal

abbrev pub invariant-loop : goal.invariant-loop
invariant-loop g l =
    IsPerfOf l.crew.hub.now l.perf × HasMoreTurns (perf_view l.initial.perf) (perf_view l.perf)
    × (length l.slots.items ≡ length l.initial.slots.items) × AreSlots l.crew.hub.now l.slots.items
