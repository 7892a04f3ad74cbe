use Rattle.std.proofs.Common.{arith, refl}
use Rattle.timelines.proofs.Ending.{last_within}
use Rattle.port_clocks.proofs.Walking.{few_passed, stands_on, stands_after}
use Rattle.port_clocks.proofs.walk.pass_port.Goals as goal

pub overflow_add-count : goal.overflow_add-count
overflow_add-count c =
    let p = c.args.core.now.plan in
    let fits = c.agrees.ensures.fits in
    omega (
      arith,
      few_passed p fits c.args.port c.args.walk c.args.clock c.requires.stands,
      c.requires.within,
      last_within p,
      fits.cycles,
    )

pub returns-then-walk-clock : goal.returns-then-walk-clock
returns-then-walk-clock c =
    stands_on c.args.core.now.plan c.agrees.ensures.fits c.args.port c.args.walk c.args.clock c.requires.stands c.requires.early
    c.if-walk-clock.true c.requires.within

pub returns : goal.returns
returns c =
    stands_after c.args.core.now.plan c.agrees.ensures.fits c.args.port c.args.walk _ c.args.clock c.requires.stands
    c.if-walk-clock.false c.requires.within refl c.clock_of.ensures
