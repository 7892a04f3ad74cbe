use Rattle.std.proofs.Common.{◌≡◌, ◌++◌, length, vec_capacity}
use Rattle.run_threads.specs.{AreHere}
use Rattle.run_threads.proofs.lead.gather.Given as goal

abbrev pub invariant-loop-slot : goal.invariant-loop-slot
invariant-loop-slot g l =
    (length l.passes.items ≡ length l.yielded) × AreHere l.hub l.passes.items
    × (l.fn.slots.items ≡ l.yielded ++ l.slot-iterator.rest.items) × (vec_capacity l.initial.passes ≡ vec_capacity l.passes)
