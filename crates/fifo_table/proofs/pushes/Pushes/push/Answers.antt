use Rattle.std.proofs.lemmas.Result.{on_ok_weaker}
use Rattle.fifo_table.proofs.Keeping.{push_places, push_more}
use Rattle.fifo_table.proofs.pushes.Pushes.push.Goals as goal

pub push-added-requires-clause-own : goal.push-added-requires-clause-own
push-added-requires-clause-own c =
    rw (← c.self.view_is, push_places c.self.inside.places.items c.self.inside.values.items c.self.invariant) at c.requires.own

pub returns-else-is_err-clause-ok : goal.returns-else-is_err-clause-ok
returns-else-is_err-clause-ok c =
    rw (← c.self.view_is) (on_ok_weaker c.push-added.result
    (λ more. push_more c.self.inside.places.items _ c.self.inside.values.items _ c.args.at c.args.value c.self.invariant more
    c.in_ok-push.ensures.ok) c.push-added.ensures.ok)
