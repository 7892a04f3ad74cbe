use Rattle.std.proofs.Common.{◌∙◌}
use Rattle.port_clocks.proofs.Walking.{walk_fill}
use Rattle.port_clocks.proofs.walk.FifoWalk.fill.Goals as goal

pub returns : goal.returns
returns c = λ p fits w clock from until within.
    c.saturating_sub.ensures ∙ walk_fill p fits c.args.self.now w clock from until within
