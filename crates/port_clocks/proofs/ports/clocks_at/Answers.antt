use Rattle.std.proofs.lemmas.Result.{IfOk-weaker}
use Rattle.port_clocks.proofs.Passing.{clocks_read, within_table}
use Rattle.port_clocks.proofs.ports.clocks_at.Goals as goal

pub cycles_at-requires-clause-channel : goal.cycles_at-requires-clause-channel
cycles_at-requires-clause-channel c =
    within_table c.args.core.now.plan c.args.core.now.held c.engine.result.now.ends.items c.engine.ensures.finished
    c.engine.result.now.graph.lanes
    c.engine.result.now.fifos.channels c.engine.ensures.lanes c.engine.ensures.channels c.args.port c.requires

pub returns : goal.returns
returns c =
    IfOk-weaker c.cycles_at.result _ _
    (clocks_read c.args.core.now.plan c.args.core.now.held c.engine.result.now.ends.items c.engine.ensures.finished
    c.engine.result.now.graph.lanes
    c.engine.result.now.fifos.channels c.engine.ensures.lanes c.engine.ensures.channels c.args.port c.requires) c.cycles_at.ensures
