use Rattle.flow_text.proofs.timed.timed.Goals as goal

pub returns-in-Err : goal.returns-in-Err
returns-in-Err c = rw c.in-Err.is (c.refused.ensures c.args.guard)
