use Rattle.std.proofs.Common.{refl}
use Rattle.sim_core.specs.{popped_in}
use Rattle.sim_core.proofs.Reading.{reads_more}
use Rattle.sim_core.proofs.post.read_all.Goals as goal

pub read_inlet-requires-clause-unread : goal.read_inlet-requires-clause-unread
read_inlet-requires-clause-unread c = c.loop-channel.invariant.left _ _ c.requires.unread

pub returns-in_err-read_inlet-clause-left : goal.returns-in_err-read_inlet-clause-left
returns-in_err-read_inlet-clause-left c = λ all n are. c.read_inlet.ensures.left all n (c.loop-channel.invariant.left all n are)

pub returns-in_err-push-clause-left : goal.returns-in_err-push-clause-left
returns-in_err-push-clause-left c = λ all n are. c.read_inlet.ensures.left all n (c.loop-channel.invariant.left all n are)

pub loop-channel-preserved : goal.loop-channel-preserved
loop-channel-preserved c = record {
  read = reads_more c.args.fifos.now.channels c.args.inlets.now.readers.now c.args.inlets.now.owner (popped_in c.args.run.now)
      c.args.channels.now c.loop-channel.values c.push.new.self c.loop-channel.channel-index _ _ c.loop-channel.invariant.read
      c.loop-channel-test.true refl c.in_ok-read_inlet.ensures.values c.in_ok-push.ensures.ok;
  left = λ all n are. c.read_inlet.ensures.left all n (c.loop-channel.invariant.left all n are);
}
