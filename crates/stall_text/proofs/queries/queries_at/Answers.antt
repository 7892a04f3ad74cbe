use Rattle.std.proofs.Common.{◌∙◌, ◌<◌, ◌^◌, sym, subst, take, ◌+◌, length, rules}
use Rattle.stall_text.specs.{AreAsked}
use Rattle.stall_text.proofs.Asked.{asked_none, asked_no, asked_yes, asked_room}
use Rattle.stall_text.proofs.queries.queries_at.Goals.{then-same_query, else-same_query}
use Rattle.stall_text.proofs.queries.queries_at.Goals as goal

pub loop-access-init : goal.loop-access-init
loop-access-init c = asked_none c.args.channels c.args.kind c.in_ok-queries.queries c.in_ok-queries.ensures

pub loop-access-preserved : goal.loop-access-preserved
loop-access-preserved c =
    let log = c.args.log.now in
    let k = c.loop-access.access-index in
    let more = AreAsked c.args.channels c.args.kind (take (k + 1) log) in
    elim c.if-same_query.branch [
      | then-same_query w ↦
          subst more (sym w.queries-is)
          (asked_yes c.args.channels c.args.kind log k _ c.loop-access.queries w.count_query.new.queries c.loop-access-test.true
          (c.requires.inside k _ c.loop-access-test.true) (sym c.same_query.ensures ∙ w.if-same_query.true) c.loop-access.invariant
          w.count_query.ensures)
      | else-same_query w ↦
          subst more (sym w.queries-is)
          (asked_no c.args.channels c.args.kind log k _ c.loop-access.queries c.loop-access-test.true
          (sym c.same_query.ensures ∙ w.if-same_query.false) c.loop-access.invariant)
    ]

pub count_query-requires-clause-few_tried : goal.count_query-requires-clause-few_tried
count_query-requires-clause-few_tried c =
    let l = c.loop-access-test.true in
    let short : length c.args.log.now < 2 ^ 64 = search rules in
    (asked_room c.args.channels c.args.kind c.args.log.now c.loop-access.access-index _ c.loop-access.queries l
    (c.requires.inside c.loop-access.access-index _ l) short c.loop-access.invariant).0

pub count_query-requires-clause-few_missed : goal.count_query-requires-clause-few_missed
count_query-requires-clause-few_missed c =
    let l = c.loop-access-test.true in
    let short : length c.args.log.now < 2 ^ 64 = search rules in
    (asked_room c.args.channels c.args.kind c.args.log.now c.loop-access.access-index _ c.loop-access.queries l
    (c.requires.inside c.loop-access.access-index _ l) short c.loop-access.invariant).1
