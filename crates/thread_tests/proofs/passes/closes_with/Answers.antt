use Rattle.thread_tests.proofs.Rests.{each_after}
use Rattle.thread_tests.proofs.passes.closes_with.Goals as goal

pub close-requires-clause-each : goal.close-requires-clause-each
close-requires-clause-each g c =
    each_after c.args.passes.perf c.perf_turn-perf.result.0 c.args.passes.modules.items c.perf_turn-perf.ensures.later.made
    c.requires.resting.each
