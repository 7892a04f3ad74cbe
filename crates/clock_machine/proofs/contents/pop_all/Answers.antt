use Rattle.std.proofs.Common.{get_or, ◌∙◌}
use Rattle.clock_machine.specs.{after_pops}
use Rattle.clock_machine.proofs.Queues.{pops_go_on, no_pops, one_more, popped_once}
use Rattle.clock_machine.proofs.contents.pop_all.Goals as goal

pub loop-channel-init : goal.loop-channel-init
loop-channel-init c = no_pops c.args.contents.now

pub loop-channel-preserved : goal.loop-channel-preserved
loop-channel-preserved c =
    one_more after_pops pops_go_on c.args.contents.now c.loop-channel.contents c.pop_front.new.contents c.args.pops.now
    c.loop-channel.channel-index 0 c.loop-channel-test.true c.loop-channel.invariant
    (c.pop_front.ensures ∙ popped_once (get_or c.args.pops.now c.loop-channel.channel-index 0) c.loop-channel.contents)
