use Rattle.std.proofs.{Common.ℕ, Common.sym, Common.ap, Common.subst, Common.◌∙◌, Common.List, Common.length, lemmas.Result.IfOk-weaker}
use Rattle.sim_core.specs.{held_in, AreReaders}
use Rattle.sim_core.proofs.{Marking.table_count, Leaving.unread_here}
use Rattle.sim_core.proofs.Lends as lends
use Rattle.sim_core.proofs.machine.Core.mail_of.Goals as goal

pub make_mail-requires-clause-readers : goal.make_mail-requires-clause-readers
make_mail-requires-clause-readers c =
    ap (λ (xs : List ℕ). length xs) c.deref.ensures.value ∙ (c.self.invariant.wired.readers_are.count
    ∙ sym (table_count c.self.inside.plan c.self.inside.engine.fifos.channels c.self.invariant.core.table))

pub make_mail-requires-clause-unread : goal.make_mail-requires-clause-unread
make_mail-requires-clause-unread c =
    let k = c.self.invariant.core in
    unread_here c.self.inside.plan (held_in c.self.inside.engine) k.sound
    (length c.self.inside.plan.design.channels)
    (sym (table_count c.self.inside.plan c.self.inside.engine.fifos.channels k.table)) c.self.inside.unread c.self.invariant.unread_are

pub invariant_of-self : goal.invariant_of-self
invariant_of-self c = record {
  core = c.self.invariant.core;
  wired = c.self.invariant.wired;
  unread_are = c.make_mail.ensures.left _ _ c.self.invariant.unread_are;
  due_are = c.self.invariant.due_are;
  listed_are = c.self.invariant.listed_are;
}

pub returns-clause-task : goal.returns-clause-task
returns-clause-task c = λ may.
    let p = c.self.inside.plan in
    let hand : lends.IsAtHand p c.self.inside.engine c.self.inside.runs.items c.args.owner c.args.run.now
    c.deref.result.now c.queries.result c.waiting.result.now = record {
      core = c.self.invariant.core;
      inside = rw (← c.self.view_is) at c.requires.out.inside;
      may = rw (← c.self.view_is) at may;
      run_is = rw (← c.self.view_is) at c.requires.out.run_is;
      readers_are = subst (AreReaders p) (sym c.deref.ensures.value) c.self.invariant.wired.readers_are;
      first_is = c.queries.ensures.made;
      accesses_are = c.waiting.ensures.accesses;
    } in
    rw (← c.self.view_is) (IfOk-weaker c.make_mail.result _ _ (λ mail made. lends.task_lent hand mail made) c.make_mail.ensures.made)
