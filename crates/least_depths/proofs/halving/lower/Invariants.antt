use Rattle.std.specs.Prelude.{◌≡◌, ◌≤◌, ◌+◌, ◌-◌, true}
use Rattle.least_depths.specs.{AsksNothing}
use Rattle.least_depths.proofs.Trying.{IsHalving}
use Rattle.least_depths.proofs.halving.lower.Given as goal

abbrev pub invariant-loop-least : goal.invariant-loop-least
invariant-loop-least g l =
    record {
      live : l.session.live ≡ true;
      runs : l.session.count.runs ≤ l.fn.session.count.runs + 1 + l.tries;
      made : g.U.Runner.made l.runner ≤ g.U.Runner.made l.fn.runner + l.tries;
      quiet : AsksNothing l.fn.session.plan → (g.U.Runner.made l.runner ≡ g.U.Runner.made l.fn.runner) × AsksNothing l.session.plan;
      halving : IsHalving l.fn.session.plan l.target.channel l.target.clock l.session.plan l.least l.most l.tries;
    }

abbrev pub decreases-loop-least : goal.decreases-loop-least
decreases-loop-least g l = l.most - l.least
