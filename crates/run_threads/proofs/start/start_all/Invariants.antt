use Rattle.std.proofs.Common.{◌≡◌, ◌++◌, length, vec_capacity}
use Rattle.run_threads.specs.{AreSlots}
use Rattle.run_threads.proofs.start.start_all.Given as goal

abbrev pub invariant-loop-driver : goal.invariant-loop-driver
invariant-loop-driver g l =
    (length l.slots.items ≡ length l.yielded) × AreSlots l.crew.hub.now l.slots.items
    × (l.fn.drivers.items ≡ l.yielded ++ l.driver-iterator.rest.items) × (vec_capacity l.initial.slots ≡ vec_capacity l.slots)
