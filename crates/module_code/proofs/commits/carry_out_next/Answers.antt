use Rattle.std.proofs.Common.{refl, true, false}
use Rattle.module_code.proofs.Writing.{written_if}
use Rattle.module_code.proofs.commits.carry_out_next.Goals as goal

pub returns-then-not-note-clause-state : goal.returns-then-not-note-clause-state
returns-then-not-note-clause-state g c channels m b room is =
    written_if channels m b room c.args.guarded.now c.args.note.now (g.R.Replies.left c.args.replies.now)
    (g.R.Replies.left c.args.replies.now) c.args.state.now c.args.state.now is false c.if-not-note.true refl refl

pub returns-clause-state : goal.returns-clause-state
returns-clause-state g c channels m b room is =
    written_if channels m b room c.args.guarded.now c.args.note.now (g.R.Replies.left c.args.replies.now)
    (g.R.Replies.left c.carry_out_due.new.replies) c.args.state.now c.carry_out_due.new.state is true c.if-not-note.false
    c.carry_out_due.ensures.state c.carry_out_due.ensures.left
