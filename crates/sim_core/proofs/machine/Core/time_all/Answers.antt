use Rattle.std.proofs.Common.{refl, arith}
use Rattle.sim_core.proofs.TimingRounds as timing
use Rattle.sim_core.proofs.machine.Core.time_all.Goals as goal

pub loop-batch-init : goal.loop-batch-init
loop-batch-init g c = timing.begun c.args.self.now c.args.steps.now c.agrees.ensures.agreed c.agrees.ensures.fits c.requires

pub time_next-requires : goal.time_next-requires
time_next-requires g c = record { at = c.loop-batch.invariant.at_most; verified = timing.verified_now c.loop-batch.invariant }

pub overflow_add-done : goal.overflow_add-done
overflow_add-done g c =
    let few = timing.few_done (timing.went c.loop-batch.invariant c.in-Some.ensures.first c.in-Some.ensures.done) in omega arith

pub loop-batch-smaller : goal.loop-batch-smaller
loop-batch-smaller g c = timing.went_on c.loop-batch.invariant c.in-Some.ensures.done

pub loop-batch-preserved : goal.loop-batch-preserved
loop-batch-preserved g c = timing.went c.loop-batch.invariant c.in-Some.ensures.first c.in-Some.ensures.done

pub returns-clause-rounds : goal.returns-clause-rounds
returns-clause-rounds g c =
    rw (c.in_default.ensures.unchanged refl).0 (timing.all_rounds c.loop-batch.invariant (c.in_default.ensures.none refl))

pub returns-clause-none_left : goal.returns-clause-none_left
returns-clause-none_left g c =
    rw (c.in_default.ensures.unchanged refl).0 (timing.none_timed c.loop-batch.invariant (c.in_default.ensures.none refl))

pub returns-clause-verified : goal.returns-clause-verified
returns-clause-verified g c = rw (c.in_default.ensures.unchanged refl).0 (timing.verified_now c.loop-batch.invariant)
