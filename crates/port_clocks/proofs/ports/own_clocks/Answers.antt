use Rattle.std.proofs.Common.{◌∙◌, sym, subst}
use Rattle.port_clocks.specs.{ArePortClocks}
use Rattle.port_clocks.proofs.Passing.{none_pass, user_owns}
use Rattle.port_clocks.proofs.ports.own_clocks.Goals as goal

pub returns-then-not-uses-clause-own : goal.returns-then-not-uses-clause-own
returns-then-not-uses-clause-own c = λ owned.
    subst (ArePortClocks c.args.core.now.plan c.args.port) (sym c.new.ensures)
    (none_pass c.args.core.now.plan c.args.core.now.held c.engine.result.now.ends.items c.engine.ensures.finished
    c.engine.result.now.graph.lanes
    c.engine.result.now.fifos.channels c.engine.ensures.lanes c.engine.ensures.channels c.args.port c.requires c.args.owner
    (sym c.if-not-uses.true ∙ c.uses.ensures) owned)

pub returns-clause-other : goal.returns-clause-other
returns-clause-other c = λ other.
    absurd (other (user_owns c.args.core.now.plan c.args.core.now.held c.engine.result.now.ends.items c.engine.ensures.finished
    c.engine.result.now.graph.lanes c.engine.result.now.fifos.channels c.engine.ensures.lanes c.engine.ensures.channels c.args.port
    c.requires c.args.owner (sym c.if-not-uses.false ∙ c.uses.ensures)))
