use Rattle.std.proofs.Common.{refl}
use Rattle.module_interp.proofs.Tallies.{tally_none, knows_ports}
use Rattle.module_interp.proofs.tally.Tally.new.Goals as goal

pub returns-clause-tally : goal.returns-clause-tally
returns-clause-tally c =
    tally_none _ c.in_ok-new.ensures.sound c.in_ok-new-2.ensures.sound c.in_ok-new.ensures.none c.in_ok-new-2.ensures.none refl

pub returns-clause-ports : goal.returns-clause-ports
returns-clause-ports c = knows_ports c.args.of.now _ c.in_ok-new.ensures.own c.in_ok-new-2.ensures.own
