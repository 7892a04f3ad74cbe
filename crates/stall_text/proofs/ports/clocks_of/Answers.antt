use Rattle.stall_text.proofs.Uses.{own_found}
use Rattle.stall_text.proofs.ports.clocks_of.Goals as goal

pub returns : goal.returns
returns c =
    own_found c.args.core.now.plan c.agrees.ensures.fits c.args.owner c.args.port c.own_clocks.result c.own_clocks.ensures.own
    c.own_clocks.ensures.other
