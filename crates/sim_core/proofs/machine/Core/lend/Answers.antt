use Rattle.sim_core.proofs.Lending.{IsRoundTrip}
use Rattle.sim_core.proofs.Lending as lending
use Rattle.sim_core.proofs.machine.Core.lend.Goals as goal

pub returns-in-Ok-clause-task : goal.returns-in-Ok-clause-task
returns-in-Ok-clause-task c =
    let may = c.may_run.ensures.some c.if-not-may_run.false in
    rw c.in-Some.ensures.lent at (c.in-Ok.ensures.task (rw c.in-Some.ensures.lent may))

pub returns-in-Err-clause-no_memory : goal.returns-in-Err-clause-no_memory
returns-in-Err-clause-no_memory c =
    let trip : IsRoundTrip c.args.self.now c.take_out.new.self c.mail_of.new.self c.put_back.new.self c.args.owner = record {
      out = c.in-Some.ensures.lent;
      here = c.in-Some.ensures.here;
      home = c.put_back.ensures;
    } in
    lending.same_back trip c.mail_of.ensures.unchanged
