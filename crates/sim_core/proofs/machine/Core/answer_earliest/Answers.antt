use Rattle.sim_core.proofs.TimingRounds as timing
use Rattle.sim_core.proofs.machine.Core.answer_earliest.Goals as goal

pub returns-in-Some-default-Same-clause-done : goal.returns-in-Some-default-Same-clause-done
returns-in-Some-default-Same-clause-done c = λ e.
    timing.least_is c.args.self.now c.answer_least.new.self c.agrees.ensures.agreed c.in-Some-default-Same.field-0-0
    (rw c.in-Some-default-Same.field-0-1-is at c.in-Some-default-Same.ensures.done) c.in-Some-default-Same.ensures.first

pub returns-in-Some-default-Same-clause-verified : goal.returns-in-Some-default-Same-clause-verified
returns-in-Some-default-Same-clause-verified c =
    timing.least_verified c.args.self.now c.answer_least.new.self c.agrees.ensures.agreed c.in-Some-default-Same.field-0-0
    c.agrees.ensures.fits c.answer_least.ensures.plan c.answer_least.ensures.lent c.requires.verified
    (rw c.in-Some-default-Same.field-0-1-is at c.in-Some-default-Same.ensures.done)
