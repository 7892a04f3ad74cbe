use Rattle.std.proofs.{Common.arith, Common.append-nil, Math.ListN.drop_of_length-le}
use Rattle.session_plan.proofs.Counts.{names_long}
use Rattle.session_plan.proofs.channels.channels_of.Goals as goal

pub returns-clause-few : goal.returns-clause-few
returns-clause-few c =
    let rest = drop_of_length-le c.args.statements.now c.loop-statement-test.false in
    let whole = rw (rest, append-nil) at c.loop-statement.invariant in
    let long = names_long c.args.statements.now in
    grind (arith, c.len.ensures.len, c.len.ensures.most)
