use Rattle.std.proofs.Common.{sym, subst}
use Rattle.thread_tests.specs.{hub_id, AreResting}
use Rattle.thread_tests.proofs.Rests.{resting_reversed}
use Rattle.thread_tests.proofs.passes.turned_round.Goals as goal

pub returns : goal.returns
returns c =
    let id = hub_id c.args.hub.now in
    let perf = c.args.passes.perf in
    record {
      resting =
          subst (AreResting id perf) (sym c.reverse.ensures.items)
          (resting_reversed id perf c.args.passes.modules.items c.requires.resting);
    }
