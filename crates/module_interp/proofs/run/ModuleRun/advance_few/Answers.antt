use Rattle.std.proofs.Common.{arith}
use Rattle.module_interp.proofs.{Advancing.at_step, Feeding.asked_stage, Sound.few_listed}
use Rattle.module_interp.proofs.run.ModuleRun.advance_few.Goals as goal

pub list-requires-clause-step : goal.list-requires-clause-step
list-requires-clause-step c = at_step _ c.in_ok-come.ensures.rests (c.rests_at_few.ensures.alive c.if-rests_at_few.true)

pub returns-then-rests_at_few-clause-few : goal.returns-then-rests_at_few-clause-few
returns-then-rests_at_few-clause-few c = λ e.
    let step = at_step _ c.in_ok-come.ensures.rests (c.rests_at_few.ensures.alive c.if-rests_at_few.true) in
    let some = step.some in
    let most = c.rests_at_few.ensures.most c.if-rests_at_few.true in
    let gap = c.rests_at_few.ensures.gap c.if-rests_at_few.true in
    let count = c.list.ensures.count in
    let same_gap = c.list.ensures.gap in
    let (p, (i, (o, s))) = c.requires.stands in
    let stands = c.list.ensures.stands p i o (c.come.ensures.stands p i o s) in
    let asked = asked_stage _ c.list.ensures.waits in
    few_listed p i o c.list.new.self stands asked (omega arith) (omega arith) (omega arith)

pub returns-then-rests_at_few-clause-stands : goal.returns-then-rests_at_few-clause-stands
returns-then-rests_at_few-clause-stands c p i o s = c.list.ensures.stands p i o (c.come.ensures.stands p i o s)

pub returns-then-rests_at_few-clause-mark : goal.returns-then-rests_at_few-clause-mark
returns-then-rests_at_few-clause-mark c = λ e p i o s. c.list.ensures.mark p i o (c.come.ensures.stands p i o s)

pub returns-then-rests_at_few-clause-sound : goal.returns-then-rests_at_few-clause-sound
returns-then-rests_at_few-clause-sound c = λ e p i o s. c.list.ensures.sound p i o (c.come.ensures.stands p i o s)
