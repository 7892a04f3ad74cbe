use Rattle.std.proofs.Common.{sym, ap, subst, ◌∙◌, ◌<◌, true, List, Bool, length, slice_index_or}
use Rattle.sim_core.specs.{Plan}
use Rattle.sim_core.proofs.Rounds as rounds
use Rattle.sim_core.proofs.Stretching as stretching
use Rattle.sim_core.proofs.machine.Core.run_on.Goals as goal

pub returns-then-not-has-clause-none : goal.returns-then-not-has-clause-none
returns-then-not-has-clause-none g c = λ e may.
    c.self.invariant.due_are.running_are.none c.args.owner (rw (← c.self.view_is) at c.requires.owner)
    (c.has.ensures.none c.if-not-has.true) (rw (← c.self.view_is) at may)

pub returns-in_default-clause-ran : goal.returns-in_default-clause-ran
returns-in_default-clause-ran g c = (rw c.in_default.is at c.in_ok-first.ensures.ran) c.args.steps.now

pub loop-init : goal.loop-init
loop-init g c = (rw c.in-Some.is at c.in_ok-first.ensures.ran) c.args.steps.now

pub time_and_run-requires : goal.time_and_run-requires
time_and_run-requires g c =
    let on = c.loop.invariant in
    record {
      owner = subst (λ (p : Plan). c.args.owner < length p.design.modules) (sym on.goes.plan) c.requires.owner;
      here = ap (λ (bs : List Bool). slice_index_or bs c.args.owner true) on.goes.lent ∙ c.requires.here;
    }

pub loop-preserved : goal.loop-preserved
loop-preserved g c =
    rounds.on_join c.args.self.now c.loop.self c.time_and_run.new.self c.args.steps.now c.loop.steps c.time_and_run.new.steps
    c.loop.invariant
    (rw c.in-Some-2.is at c.in_ok-more.ensures.ran)

pub returns-in_err-more-clause-no_memory : goal.returns-in_err-more-clause-no_memory
returns-in_err-more-clause-no_memory g c =
    let stops = c.in_err-more.ensures.no_memory in
    stretching.on_err c.from_residual-in_err-more.result (record {
      goes = rounds.goes_join c.args.self.now c.loop.self c.time_and_run.new.self c.args.steps.now c.loop.steps c.time_and_run.new.steps
          c.loop.invariant.goes stops.goes;
      permitted = stops.permitted;
    })

pub returns-in-None-clause-ran : goal.returns-in-None-clause-ran
returns-in-None-clause-ran g c =
    let (same, ticks) = rw c.in-None.is at c.in_ok-more.ensures.ran in
    rw (same, ticks) c.loop.invariant
