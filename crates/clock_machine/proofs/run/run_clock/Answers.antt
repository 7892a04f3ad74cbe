use Rattle.std.proofs.Common.{sym, ◌∙◌}
use Rattle.clock_machine.specs.{state}
use Rattle.clock_machine.proofs.Coming.{moving_unsettled, still_settled}
use Rattle.clock_machine.proofs.run.run_clock.Goals as goal

pub returns-then-branch-clause-settled : goal.returns-then-branch-clause-settled
returns-then-branch-clause-settled c =
    let p = c.args.of.now.plan.now in
    sym (moving_unsettled p c.args.clock (state p c.args.clock) (sym c.in_ok-step.ensures.moving ∙ c.if-branch.true))

pub returns-clause-settled : goal.returns-clause-settled
returns-clause-settled c =
    sym (still_settled c.args.of.now.plan.now c.args.clock c.in_ok-settled.settled (sym c.in_ok-step.ensures.moving ∙ c.if-branch.false)
    (sym c.in_ok-settled.ensures.settled))
