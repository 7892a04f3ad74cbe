use Rattle.std.proofs.Common.{drop}
use Rattle.clock_machine.proofs.Queues.{changed_at, unchanged_past}
use Rattle.clock_machine.proofs.contents.pop_front.Goals as goal

pub returns-then-channel-contents : goal.returns-then-channel-contents
returns-then-channel-contents c =
    changed_at (drop 1) c.args.channel c.args.contents.now c.index-contents-channel.result c.pop.new.self c.if-channel-contents.true
    c.pop.ensures.rest

pub returns-else-channel-contents : goal.returns-else-channel-contents
returns-else-channel-contents c = unchanged_past (drop 1) c.args.channel c.args.contents.now c.if-channel-contents.false
