use Rattle.std.proofs.Common.{◌∙◌, true, false, not, sym, ap}
use Rattle.clock_machine.specs.{state, state_at}
use Rattle.clock_machine.proofs.{Moving.over_stays, Sleeping.moves_by_requests, Sleeping.asked_in, Sleeping.runs_in}
use Rattle.clock_machine.proofs.turn.surely_stays.Goals as goal

pub returns-then-is_over-clause-stays : goal.returns-then-is_over-clause-stays
returns-then-is_over-clause-stays c e =
    let p = c.args.at.now.of.now.plan.now in
    let clock = c.args.at.now.clock in
    let i = c.args.i in
    over_stays p clock (state p clock).contents (i, state_at p clock i)
    (runs_in p clock i c.args.state.now c.args.memo.now true c.requires.remembered c.requires.awake (sym c.is_over.ensures ∙
    c.if-is_over.true))

pub returns-clause-stays : goal.returns-clause-stays
returns-clause-stays c e =
    let p = c.args.at.now.of.now.plan.now in
    let clock = c.args.at.now.clock in
    let i = c.args.i in
    let s = c.args.state.now in
    let r = c.requires in
    let known = c.still_stalls.ensures.known e in
    sym (moves_by_requests p clock i c.args.at.now.contents.now c.args.memo.now.requests false r.runs.holding
    (asked_in p clock i s c.args.memo.now r.remembered r.awake known)
    (runs_in p clock i s c.args.memo.now false r.remembered r.awake (sym c.is_over.ensures ∙ c.if-is_over.false))
    (ap not (sym (c.still_stalls.ensures.stalls e))))

pub returns-clause-running : goal.returns-clause-running
returns-clause-running c e = sym c.is_over.ensures ∙ c.if-is_over.false
