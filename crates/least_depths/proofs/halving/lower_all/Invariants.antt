use Rattle.std.specs.Prelude.{◌≡◌, ◌≤◌, ◌+◌, ◌*◌, true}
use Rattle.flow_design.specs.declared.limits.TheConstants.{FIFO_DEPTH}
use Rattle.least_depths.specs.{AsksNothing, lowered}
use Rattle.least_depths.proofs.halving.lower_all.Given as goal

abbrev pub invariant-loop-channel : goal.invariant-loop-channel
invariant-loop-channel g l =
    record {
      live : l.session.live ≡ true;
      runs : l.session.count.runs ≤ 1 + l.channel * (FIFO_DEPTH + 1);
      few : l.tries ≤ l.channel * FIFO_DEPTH;
      made : g.U.Runner.made l.runner ≤ g.U.Runner.made l.fn.runner + l.tries + l.channel;
      quiet : AsksNothing l.fn.session.plan → (g.U.Runner.made l.runner ≡ g.U.Runner.made l.fn.runner) × AsksNothing l.session.plan;
      plan : l.session.plan ≡ (lowered l.fn.session.plan l.clock l.channel).plan;
      tries : l.tries ≡ (lowered l.fn.session.plan l.clock l.channel).tries;
    }
