use Rattle.std.proofs.lemmas.Result.{on_ok_weaker, on_err_weaker}
use Rattle.fifo_table.proofs.Keeping.{place_same, place_more}
use Rattle.fifo_table.proofs.places.Places.push.Goals as goal

pub returns-clause-ok : goal.returns-clause-ok
returns-clause-ok c =
    rw (← c.self.view_is) (on_ok_weaker c.push.result (place_more c.self.inside.module c.args.at c.self.inside.steps.items _
    (rw (← c.self.view_is) at c.requires.own)) c.push.ensures.ok)

pub returns-clause-err : goal.returns-clause-err
returns-clause-err c =
    rw (← c.self.view_is) (on_err_weaker c.push.result (place_same c.self.inside.module c.args.at.module c.self.inside.steps.items _
    (rw (← c.self.view_is) at c.requires.own)) c.push.ensures.err)
