use Rattle.std.proofs.Common.{◌++◌, ◌∷◌, []}
use Rattle.clock_machine.proofs.Queues.{changed_at, unchanged_past}
use Rattle.clock_machine.proofs.contents.push_back.Goals as goal

pub returns-in_ok-push : goal.returns-in_ok-push
returns-in_ok-push c =
    changed_at (λ held. held ++ c.args.element ∷ []) c.args.channel c.args.contents.now c.index-contents-channel.result c.push.new.self
    c.if-channel-contents.true
    c.in_ok-push.ensures.ok

pub returns-else-channel-contents : goal.returns-else-channel-contents
returns-else-channel-contents c =
    unchanged_past (λ held. held ++ c.args.element ∷ []) c.args.channel c.args.contents.now c.if-channel-contents.false
