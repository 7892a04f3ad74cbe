use Rattle.std.proofs.Common.{get_or, ◌∙◌}
use Rattle.clock_machine.specs.{after_pushes, PushedValue}
use Rattle.clock_machine.proofs.Queues.{pushes_go_on, no_pushes, one_more, pushed_once}
use Rattle.clock_machine.proofs.contents.push_all.Goals as goal

pub loop-pushed-init : goal.loop-pushed-init
loop-pushed-init c = no_pushes c.args.plan.now c.args.clock c.args.contents.now

pub loop-pushed-preserved : goal.loop-pushed-preserved
loop-pushed-preserved c =
    let none : PushedValue = record { channel = 0; value = 0 } in
    one_more (after_pushes c.args.plan.now c.args.clock) (pushes_go_on c.args.plan.now c.args.clock) c.args.contents.now
    c.loop-pushed.contents c.push_back.new.contents c.args.pushes.now c.loop-pushed.pushed-index none
    c.loop-pushed-test.true c.loop-pushed.invariant
    (c.in_ok-push_back.ensures ∙ pushed_once c.args.plan.now c.args.clock c.delay.result
    (get_or c.args.pushes.now c.loop-pushed.pushed-index none) c.loop-pushed.contents c.delay.ensures)
