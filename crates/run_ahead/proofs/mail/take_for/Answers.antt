use Rattle.std.proofs.Common.{◌≡◌, ◌∙◌, sym, true}
use Rattle.run_ahead.specs.{takes_by}
use Rattle.run_ahead.proofs.Finding.{left_more}
use Rattle.run_ahead.proofs.mail.take_for.Goals as goal

pub returns-then-takes-clause-left : goal.returns-then-takes-clause-left
returns-then-takes-clause-left c = λ whole taken k.
    let does : takes_by c.args.access.now.kind c.args.outcome ≡ true = sym c.takes.ensures ∙ c.if-takes.true in
    let h = c.take_value.ensures in
    rw does (left_more whole c.args.mail.now c.take_value.new.mail taken c.args.access.now.channel k h.outcomes h.taken h.others)
