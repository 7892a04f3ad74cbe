use Rattle.thread_tests.specs.{hub_id, AreResting}
use Rattle.thread_tests.proofs.driven.is_driven.Given as goal

abbrev pub invariant-loop-next : goal.invariant-loop-next
invariant-loop-next g l = AreResting (hub_id l.hub) l.passes.perf l.passes.modules.items
