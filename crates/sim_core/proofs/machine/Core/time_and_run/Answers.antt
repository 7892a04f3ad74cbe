use Rattle.std.proofs.Common.{sym, ap, subst, ◌∙◌, ◌<◌, true, List, Bool, length, slice_index_or}
use Rattle.sim_core.specs.{Plan, GoesOn}
use Rattle.sim_core.proofs.Rounds as rounds
use Rattle.sim_core.proofs.Stretching as stretching
use Rattle.sim_core.proofs.machine.Core.time_and_run.Goals as goal

pub run_some-requires : goal.run_some-requires
run_some-requires g c =
    let on : GoesOn c.args.self.now c.args.steps.now c.time_on.new.self c.time_on.new.steps = rw c.in-Acted.is at c.time_on.ensures in
    record {
      owner = subst (λ (p : Plan). c.args.owner < length p.design.modules) (sym on.goes.plan) c.requires.owner;
      here = ap (λ (bs : List Bool). slice_index_or bs c.args.owner true) on.goes.lent ∙ c.requires.here;
    }

pub returns-in_err-end-clause-no_memory : goal.returns-in_err-end-clause-no_memory
returns-in_err-end-clause-no_memory g c =
    let on : GoesOn c.args.self.now c.args.steps.now c.time_on.new.self c.time_on.new.steps = rw c.in-Acted.is at c.time_on.ensures in
    let stops = c.in_err-end.ensures.no_memory c.time_on.new.steps in
    stretching.on_err c.from_residual.result
    (record {
      goes = rounds.goes_join c.args.self.now c.time_on.new.self c.run_some.new.self c.args.steps.now c.time_on.new.steps
          c.time_on.new.steps on.goes stops.goes;
      permitted = stops.permitted;
    })

pub returns-in-Some-clause-ran : goal.returns-in-Some-clause-ran
returns-in-Some-clause-ran g c =
    let on : GoesOn c.args.self.now c.args.steps.now c.time_on.new.self c.time_on.new.steps = rw c.in-Acted.is at c.time_on.ensures in
    let more = rw c.in-Some.is at c.in_ok-end.ensures.ran in
    rounds.on_join c.args.self.now c.time_on.new.self c.run_some.new.self c.args.steps.now c.time_on.new.steps c.time_on.new.steps on
    (more c.time_on.new.steps)

pub returns-in-None-clause-ran : goal.returns-in-None-clause-ran
returns-in-None-clause-ran g c =
    let on : GoesOn c.args.self.now c.args.steps.now c.time_on.new.self c.time_on.new.steps = rw c.in-Acted.is at c.time_on.ensures in
    let (same, ticks) = (rw c.in-None.is at c.in_ok-end.ensures.ran) c.time_on.new.steps in
    rw same on
