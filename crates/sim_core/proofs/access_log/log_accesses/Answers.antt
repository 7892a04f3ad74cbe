use Rattle.std.proofs.{Common.[], Common.arith, lemmas.List.Elements.All-tail}
use Rattle.sim_core.specs.{step_doing}
use Rattle.sim_core.proofs.AccessLogs.{logged_more}
use Rattle.sim_core.proofs.access_log.log_accesses.Goals as goal

pub loop-access-preserved : goal.loop-access-preserved
loop-access-preserved g c =
    let here = c.in-Some.ensures.steps in
    let place = rw here at c.loop-access.invariant.place in
    let asked = rw here at c.loop-access.invariant.asked in
    record {
      log = logged_more (step_doing c.args.key.now []) (g.A.Answers.reply c.args.replies.now) c.loop-access.place c.loop-access.asked
          c.query_count-asked.result c.in-Some.access c.next.new.self _ c.loop-access.log c.push.new.self c.query_count-asked.ensures.count
          (rw here at c.loop-access.invariant.log) (rw (c.logged.ensures, c.reply-reply.ensures) at c.in_ok-push.ensures.ok);
      known = All-tail (g.A.Answers.knows c.args.replies.now) c.in-Some.access c.next.new.self (rw here at c.loop-access.invariant.known);
      place = omega arith;
      asked = let most = c.query_count-asked.ensures.most in omega arith;
    }
