use Rattle.std.proofs.Common.{refl, sym, subst, ◌<◌, length}
use Rattle.sim_core.specs.{Plan}
use Rattle.sim_core.proofs.Rounds as rounds
use Rattle.sim_core.proofs.machine.Core.visit.Goals as goal

pub time_on-requires-in-Some : goal.time_on-requires-in-Some
time_on-requires-in-Some g c =
    let some = rw c.in-Some.is at c.in_ok-run_on.ensures.ran in
    subst (λ (p : Plan). c.args.owner < length p.design.modules) (sym some.goes.plan) c.requires.owner

pub returns-in-None-clause-visited : goal.returns-in-None-clause-visited
returns-in-None-clause-visited g c =
    let (same, ticks) = rw c.in-None.is at c.in_ok-run_on.ensures.ran in
    let none = (rw c.in-None.is at c.in_ok-run_on.ensures.none) refl in
    rounds.timed_is_visit c.args.self.now c.time_on.new.self c.args.steps.now c.time_on.new.steps c.args.owner c.time_on.result none
    (rw (same, ticks) at c.time_on.ensures)

pub returns-in-Acted-clause-visited : goal.returns-in-Acted-clause-visited
returns-in-Acted-clause-visited g c =
    let some = rw c.in-Some.is at c.in_ok-run_on.ensures.ran in
    rounds.timed_after c.args.self.now c.run_on.new.self c.time_on-in-Some.new.self c.args.steps.now c.run_on.new.steps
    c.time_on-in-Some.new.steps c.args.owner c.time_on-in-Some.result some c.time_on-in-Some.ensures

pub returns-in-Differs : goal.returns-in-Differs
returns-in-Differs g c =
    let some = rw c.in-Some.is at c.in_ok-run_on.ensures.ran in
    record {
      visited =
          rounds.timed_after c.args.self.now c.run_on.new.self c.time_on-in-Some.new.self c.args.steps.now c.run_on.new.steps
          c.time_on-in-Some.new.steps c.args.owner c.time_on-in-Some.result some c.time_on-in-Some.ensures;
      no_memory = tt;
    }
