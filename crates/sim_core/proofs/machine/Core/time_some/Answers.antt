use Rattle.sim_core.proofs.TimingRounds as timing
use Rattle.sim_core.proofs.machine.Core.time_some.Goals as goal

pub returns-clause-done : goal.returns-clause-done
returns-clause-done g c = λ some.
    timing.times_some c.args.self.now c.time_stretch-timed.new.self c.args.owner c.args.steps.now c.time_stretch-timed.new.steps
    c.time_stretch-timed.result.answers c.time_stretch-timed.result.cycles c.requires.owner c.agrees.ensures.agreed c.agrees.ensures.fits
    c.requires.verified c.time_stretch-timed.ensures.ticks c.time_stretch-timed.ensures.answers c.time_stretch-timed.result.visit
    c.time_stretch-timed.ensures.leads some

pub returns-clause-none : goal.returns-clause-none
returns-clause-none g c = λ none.
    (timing.times_none c.args.self.now c.time_stretch-timed.new.self c.args.owner c.args.steps.now c.time_stretch-timed.new.steps
    c.time_stretch-timed.result.answers c.time_stretch-timed.result.cycles c.requires.owner c.agrees.ensures.agreed c.agrees.ensures.fits
    c.requires.verified c.time_stretch-timed.ensures.ticks c.time_stretch-timed.ensures.answers c.time_stretch-timed.result.visit
    c.time_stretch-timed.ensures.leads none).0

pub returns-clause-unchanged : goal.returns-clause-unchanged
returns-clause-unchanged g c = λ none.
    let (untimable, same, ticks) = timing.times_none c.args.self.now c.time_stretch-timed.new.self c.args.owner c.args.steps.now
    c.time_stretch-timed.new.steps c.time_stretch-timed.result.answers c.time_stretch-timed.result.cycles c.requires.owner
    c.agrees.ensures.agreed c.agrees.ensures.fits c.requires.verified c.time_stretch-timed.ensures.ticks
    c.time_stretch-timed.ensures.answers c.time_stretch-timed.result.visit c.time_stretch-timed.ensures.leads none in (same, ticks)
