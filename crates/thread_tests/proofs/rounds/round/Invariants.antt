use Rattle.thread_tests.specs.{hub_id, AreResting}
use Rattle.thread_tests.proofs.rounds.round.Given as goal

abbrev pub invariant-loop-which : goal.invariant-loop-which
invariant-loop-which g l = AreResting (hub_id l.hub) l.passes.perf l.passes.modules.items
