use Rattle.module_code.proofs.Moving.{moved_is}
use Rattle.module_interp.proofs.quiet.commit_on.Goals as goal

pub commit-requires-clause-can : goal.commit-requires-clause-can
commit-requires-clause-can g c = let (channels, can) = c.requires.can in (channels, (c.args.of.now, can))

pub returns-clause-moved : goal.returns-clause-moved
returns-clause-moved g c =
    let (channels, can) = c.requires.can in
    moved_is c.args.of.now c.args.state.now c.commit.new.state c.tick_to.new.state (g.R.Replies.left c.args.replies.now)
    (c.commit.ensures.committed channels c.args.of.now can) c.tick_to.ensures.ticked
