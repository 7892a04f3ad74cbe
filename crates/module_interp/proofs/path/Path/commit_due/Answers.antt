use Rattle.module_interp.proofs.Ways.{can_commit}
use Rattle.module_interp.proofs.path.Path.commit_due.Goals as goal

pub commit_on-requires-clause-can : goal.commit_on-requires-clause-can
commit_on-requires-clause-can g c =
    let x = c.args.self.now in (
      c.requires.path.plan.design.channels,
      can_commit x c.requires.path c.requires.answer c.as_slice.result.now c.index-as_slice-self.result c.as_slice.ensures
          c.index-as_slice-self.is,
    )
