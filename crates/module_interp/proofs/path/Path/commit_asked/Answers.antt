use Rattle.std.proofs.Common.{◌≡◌, ◌∙◌, List, refl, ap, arith}
use Rattle.module_interp.specs.{Reply, move, replies_told}
use Rattle.module_interp.proofs.Ways.{can_commit}
use Rattle.module_interp.proofs.path.Path.commit_asked.Goals as goal

pub commit_on-requires-clause-can : goal.commit_on-requires-clause-can
commit_on-requires-clause-can g c =
    let x = c.args.self.now in (
      c.requires.path.plan.design.channels,
      can_commit x c.requires.path c.requires.answer c.as_slice.result.now c.index-as_slice-self.result c.as_slice.ensures
          c.index-as_slice-self.is,
    )

pub commit_on-requires-clause-known : goal.commit_on-requires-clause-known
commit_on-requires-clause-known g c =
    let few = c.requires.few in
    let made = c.new-replies.ensures in
    rw (made.answers, made.accesses, made.place, made.asked, c.as_slice-2.ensures) (c.requires.knows, (omega arith, omega arith))

pub returns-clause-moved : goal.returns-clause-moved
returns-clause-moved g c =
    let x = c.args.self.now in
    let made = c.new-replies.ensures in
    let told : replies_told (g.A.Answers.reply c.new-replies.result.answers.now) c.new-replies.result.place c.new-replies.result.asked
    c.new-replies.result.accesses.now
    ≡ replies_told (g.A.Answers.reply c.args.answers.now) 0 0 x.asked =
    rw (made.answers, made.accesses, made.place, made.asked, c.as_slice-2.ensures) refl in
    c.commit_on.ensures.moved ∙ ap (λ (rs : List Reply). move x.of x.state rs) told
