use Rattle.core_actions.proofs.Acts as acts
use Rattle.core_actions.proofs.acting.act_now.Goals as goal

pub unwrap-cycle-requires : goal.unwrap-cycle-requires
unwrap-cycle-requires g c =
    let (n, may) = rw c.in-Earliest.is at c.requires.permitted in
    acts.cycle_there c.args.core.now c.args.core.now c.in-Earliest.owner n may c.next_cycle.result c.next_cycle.ensures.cause

pub answer_open-requires : goal.answer_open-requires
answer_open-requires g c =
    let (n, may) = rw c.in-Earliest.is at c.requires.permitted in
    acts.earliest_at c.args.core.now c.args.core.now c.in-Earliest.owner n c.unwrap-cycle.result may
    (rw c.unwrap-cycle.ensures at c.next_cycle.ensures.determined)

pub returns-in_ok-_ran-in-Run-clause-acted : goal.returns-in_ok-_ran-in-Run-clause-acted
returns-in_ok-_ran-in-Run-clause-acted g c =
    let may = rw c.in-Run.is at c.requires.permitted in
    rw c.in-Run.is (acts.ran_acted c.args.core.now c.run.new.self c.in-Run.owner c.in_ok-_ran-in-Run._ran may
    c.in_ok-_ran-in-Run.ensures.acts c.in_ok-_ran-in-Run.ensures.not_permitted)

pub returns-in-Assign-clause-acted : goal.returns-in-Assign-clause-acted
returns-in-Assign-clause-acted g c =
    let (n, may) = rw c.in-Assign.is at c.requires.permitted in
    rw (c.in-Assign.is, c.guard_of.ensures) (acts.assigned_acted c.args.core.now c.time.new.self c.in-Assign.owner c.time.result n may
    c.time.ensures.done).0
