use Rattle.std.proofs.Common.{subst}
use Rattle.least_memory.specs.{AreCheapest}
use Rattle.least_memory.proofs.Needed.{are_demands, own_covers}
use Rattle.least_memory.proofs.demands.cheapest_of.Goals as goal

pub cheapest-requires : goal.cheapest-requires
cheapest-requires c = are_demands c.args.core.now.plan c.agrees.ensures.fits c.args.clock c.args.demands.now c.requires.needed

pub unreachable-requires : goal.unreachable-requires
unreachable-requires c =
    subst (AreCheapest c.args.demands.now) c.in-None.is c.in_ok-depths.ensures c.args.core.now.plan.depths
    (own_covers c.args.core.now.plan c.agrees.ensures.fits c.args.clock c.args.demands.now c.requires.needed c.requires.done)
