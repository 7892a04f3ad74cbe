use Rattle.std.proofs.lemmas.Result.{on_ok_weaker}
use Rattle.least_depths.proofs.Trying.{edited_alike}
use Rattle.least_depths.proofs.halving.is_timely.Goals as goal

pub returns-clause-alike : goal.returns-clause-alike
returns-clause-alike g c =
    on_ok_weaker c.is_in_time.result
    (edited_alike c.args.session.now.plan c.args.edit.now.channel c.is_in_time.new.session.plan c.args.edit.now.depth)
    c.is_in_time.ensures.plan
