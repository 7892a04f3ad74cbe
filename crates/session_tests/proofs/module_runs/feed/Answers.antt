use Rattle.std.proofs.Common.{rules, ◌≡◌, true}
use Rattle.session_tests.specs.{accesses_at, all_fit}
use Rattle.session_tests.proofs.InOrder.{told_in_order}
use Rattle.session_tests.proofs.module_runs.feed.Goals as goal

pub returns-clause-run : goal.returns-clause-run
returns-clause-run g c =
    let r = c.requires.run in
    record { plan = r.plan; number = r.number; rest = _; stands = c.feed.ensures.stands r.plan r.number r.rest r.stands }

pub feed-requires-clause-stands : goal.feed-requires-clause-stands
feed-requires-clause-stands g c =
    let r = c.requires.run in
    let stands = r.stands in
    let fit : all_fit (accesses_at r.plan r.number r.rest) c.args.replies.now ≡ true = search rules in
    (r.plan, (r.number, (r.rest, (stands, rw (told_in_order (accesses_at r.plan r.number r.rest) c.args.replies.now fit) fit))))
