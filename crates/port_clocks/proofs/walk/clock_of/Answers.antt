use Rattle.std.proofs.Common.{sym, subst}
use Rattle.port_clocks.specs.{PassesAt}
use Rattle.port_clocks.proofs.Passing.{passes_read, within_table}
use Rattle.port_clocks.proofs.walk.clock_of.Goals as goal

pub cycle_at-requires-clause-channel : goal.cycle_at-requires-clause-channel
cycle_at-requires-clause-channel c =
    within_table c.args.core.now.plan c.args.core.now.held c.engine.result.now.ends.items c.engine.ensures.finished
    c.engine.result.now.graph.lanes
    c.engine.result.now.fifos.channels c.engine.ensures.lanes c.engine.ensures.channels c.args.port c.requires

pub returns : goal.returns
returns c =
    subst (PassesAt c.args.core.now.plan c.args.port c.args.number) (sym c.unwrap_or.ensures)
    (passes_read c.args.core.now.plan c.args.core.now.held c.engine.result.now.ends.items c.engine.ensures.finished
    c.engine.result.now.graph.lanes
    c.engine.result.now.fifos.channels c.engine.ensures.lanes c.engine.ensures.channels c.args.port c.requires c.args.number
    c.cycle_at.result c.cycle_at.ensures)
