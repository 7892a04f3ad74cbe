use Rattle.std.proofs.Common.{rules, ◌≡◌, ◌∷◌, [], true}
use Rattle.flow_design.specs.declared.state.Reply.TheVariants.{Done}
use Rattle.session_tests.specs.{accesses_at, all_fit}
use Rattle.session_tests.proofs.InOrder.{told_in_order}
use Rattle.session_tests.proofs.module_runs.comes_to_a_write.Goals as goal

pub feed-requires-clause-stands : goal.feed-requires-clause-stands
feed-requires-clause-stands g c =
    let r = c.requires.run in
    let stands = c.advance_few.ensures.stands r.plan r.number r.rest r.stands in
    let fit : all_fit (accesses_at r.plan r.number r.rest) (Done ∷ []) ≡ true = search rules in
    (r.plan, (r.number, (r.rest, (stands, rw (told_in_order (accesses_at r.plan r.number r.rest) (Done ∷ []) fit) fit))))

pub advance_few-requires-2-clause-stands : goal.advance_few-requires-2-clause-stands
advance_few-requires-2-clause-stands g c =
    let r = c.requires.run in
    let stands = c.advance_few.ensures.stands r.plan r.number r.rest r.stands in
    (r.plan, (r.number, (_, c.feed.ensures.stands r.plan r.number r.rest stands)))

pub give-requires-clause-stands : goal.give-requires-clause-stands
give-requires-clause-stands g c =
    let r = c.requires.run in
    let stands = c.advance_few.ensures.stands r.plan r.number r.rest r.stands in
    let fed = c.feed.ensures.stands r.plan r.number r.rest stands in
    (r.plan, (r.number, (_, c.advance_few-2.ensures.stands r.plan r.number _ fed)))
