use Rattle.thread_tests.specs.{hub_id, AreResting}
use Rattle.thread_tests.proofs.rounds.come_to_end.Given as goal

abbrev pub invariant-loop : goal.invariant-loop
invariant-loop g l = AreResting (hub_id l.hub) l.passes.perf l.passes.modules.items
