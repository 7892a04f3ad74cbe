use Rattle.std.proofs.Common.{◌≡◌, ◌<◌, ◌^◌, arith, length, rules, subst, List}
use Rattle.std.proofs.lemmas.List.{take_all}
use Rattle.stall_text.specs.{LoggedAccess}
use Rattle.stall_text.proofs.Polled.{Polled, polled_none, polled_more, polled_room, polled_all}
use Rattle.stall_text.proofs.polls.pollings.Goals as goal

pub loop-access-init : goal.loop-access-init
loop-access-init c = polled_none c.args.modules c.in_ok-pollings.pollings c.in_ok-pollings.ensures

pub loop-access-preserved : goal.loop-access-preserved
loop-access-preserved c =
    polled_more c.args.modules c.args.log.now c.loop-access.access-index _ c.loop-access.pollings c.count_access.new.pollings
    c.loop-access-test.true (c.requires.inside c.loop-access.access-index _ c.loop-access-test.true) c.loop-access.invariant
    c.count_access.ensures

pub count_access-requires-clause-few : goal.count_access-requires-clause-few
count_access-requires-clause-few c =
    let l = c.loop-access-test.true in
    let short : length c.args.log.now < 2 ^ 64 = search rules in
    polled_room c.args.modules c.args.log.now c.loop-access.access-index _ c.loop-access.pollings l
    (c.requires.inside c.loop-access.access-index _ l) short c.loop-access.invariant

pub returns : goal.returns
returns c =
    let log = c.args.log.now in
    let all : c.loop-access.access-index ≡ length log = omega (arith, c.loop-access-test.false, c.loop-access.auto.access-index-end) in
    let short : length c.args.log.now < 2 ^ 64 = search rules in
    polled_all c.args.modules log c.loop-access.pollings short
    (subst (λ (l : List LoggedAccess). Polled c.args.modules l c.loop-access.pollings)
    (take_all c.loop-access.access-index log (omega arith)) c.loop-access.invariant)
