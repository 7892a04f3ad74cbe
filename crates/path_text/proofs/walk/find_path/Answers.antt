use Rattle.std.proofs.Common.{sym, ap, subst, arith, ℕ, ◌<◌, ◌≤◌, length}
use Rattle.std.specs.Prelude.{IfSome}
use Rattle.path_text.specs.{verdict, clock_of, lag_in, PolledLink, IsLastMove, link_at}
use Rattle.path_text.proofs.{Doings.mover_inside, SpanLinks.spans_sorted, Found.step_is, Walked.spans_at, Walked.walk_begins}
use Rattle.path_text.proofs.Chains.{crossing_inside, crossing_later}
use Rattle.path_text.proofs.Followed.{IsWalk, left, polled_crossing, polled_inside, walk_on}
use Rattle.path_text.proofs.walk.find_path.Goals as goal

pub loop-next-init : goal.loop-next-init
loop-next-init c =
    let p = c.args.plan.now in
    let end = clock_of (verdict p) in
    walk_begins p c.args.log.now end c.new-links.result c.new-polls.result c.last_move-next.result c.new-links.ensures c.new-polls.ensures
    (subst (λ (n : ℕ). IsLastMove p end n c.last_move-next.result) c.requires.spans.count (c.last_move-next.ensures p end c.requires.spans))

pub bounds-spans-at : goal.bounds-spans-at
bounds-spans-at c =
    let p = c.args.plan.now in
    let x = subst (IsWalk p c.args.log.now (clock_of (verdict p)) c.loop-next.links c.loop-next.polls) c.in-Some.is c.loop-next.invariant in
    let inside = mover_inside p c.in-Some.at.clock c.in-Some.at.module x.there.1 in
    omega (arith, c.requires.spans.count)

pub link_to-link-requires : goal.link_to-link-requires
link_to-link-requires c =
    let p = c.args.plan.now in
    let end = clock_of (verdict p) in
    let at = c.in-Some.at in
    let x = subst (IsWalk p c.args.log.now end c.loop-next.links c.loop-next.polls) c.in-Some.is c.loop-next.invariant in
    spans_sorted p at.module end c.as_slice.result.now
    (spans_at p end at c.args.spans.now c.index-spans-at.result c.as_slice.result.now x.there.1 c.requires.spans c.index-spans-at.is
    c.as_slice.ensures)

pub before_polled-next-requires-clause-polled : goal.before_polled-next-requires-clause-polled
before_polled-next-requires-clause-polled c =
    let p = c.args.plan.now in
    let end = clock_of (verdict p) in
    let at = c.in-Some.at in
    let x = subst (IsWalk p c.args.log.now end c.loop-next.links c.loop-next.polls) c.in-Some.is c.loop-next.invariant in
    let a = spans_at p end at c.args.spans.now c.index-spans-at.result c.as_slice.result.now x.there.1 c.requires.spans c.index-spans-at.is
    c.as_slice.ensures in
    let link = c.link_to-link.ensures p end a x.there.0 x.there.1 in
    let step = step_is p c.args.log.now c.in_ok-kept.kept c.as_slice-in-Some.result.now c.link_to-link.result _ _ c.in_ok-kept.ensures
    c.as_slice-in-Some.ensures link c.polled_link-step.ensures in
    subst (λ (s : PolledLink). IfSome s.polled (λ q. q.channel < length p.design.channels)) (sym step)
    (polled_inside p c.requires.fits c.args.log.now c.requires.log (link_at p at.module at.clock))

pub before_polled-next-requires-clause-crossed : goal.before_polled-next-requires-clause-crossed
before_polled-next-requires-clause-crossed c =
    let p = c.args.plan.now in
    let end = clock_of (verdict p) in
    let at = c.in-Some.at in
    let x = subst (IsWalk p c.args.log.now end c.loop-next.links c.loop-next.polls) c.in-Some.is c.loop-next.invariant in
    let a = spans_at p end at c.args.spans.now c.index-spans-at.result c.as_slice.result.now x.there.1 c.requires.spans c.index-spans-at.is
    c.as_slice.ensures in
    let link = c.link_to-link.ensures p end a x.there.0 x.there.1 in
    let step = step_is p c.args.log.now c.in_ok-kept.kept c.as_slice-in-Some.result.now c.link_to-link.result _ _ c.in_ok-kept.ensures
    c.as_slice-in-Some.ensures link c.polled_link-step.ensures in
    subst (λ (s : PolledLink). IfSome s.link.crossed (λ a. a.channel < length p.design.channels)) (sym step)
    (polled_crossing p c.args.log.now (link_at p at.module at.clock) (λ n o. IfSome o (λ a. a.channel < length p.design.channels))
    (λ n. tt) (crossing_inside p c.requires.fits at.module at.clock x.there.1))

pub before_polled-next-requires-clause-later : goal.before_polled-next-requires-clause-later
before_polled-next-requires-clause-later c =
    let p = c.args.plan.now in
    let end = clock_of (verdict p) in
    let at = c.in-Some.at in
    let x = subst (IsWalk p c.args.log.now end c.loop-next.links c.loop-next.polls) c.in-Some.is c.loop-next.invariant in
    let a = spans_at p end at c.args.spans.now c.index-spans-at.result c.as_slice.result.now x.there.1 c.requires.spans c.index-spans-at.is
    c.as_slice.ensures in
    let link = c.link_to-link.ensures p end a x.there.0 x.there.1 in
    let step = step_is p c.args.log.now c.in_ok-kept.kept c.as_slice-in-Some.result.now c.link_to-link.result _ _ c.in_ok-kept.ensures
    c.as_slice-in-Some.ensures link c.polled_link-step.ensures in
    subst (λ (s : PolledLink). IfSome s.link.crossed (λ a. lag_in p a.side a.channel ≤ s.link.first)) (sym step)
    (polled_crossing p c.args.log.now (link_at p at.module at.clock) (λ n o. IfSome o (λ a. lag_in p a.side a.channel ≤ n))
    (λ n. tt) (crossing_later p c.requires.fits at.module at.clock x.there.1))

pub loop-next-smaller : goal.loop-next-smaller
loop-next-smaller c =
    let p = c.args.plan.now in
    let end = clock_of (verdict p) in
    let at = c.in-Some.at in
    let x = subst (IsWalk p c.args.log.now end c.loop-next.links c.loop-next.polls) c.in-Some.is c.loop-next.invariant in
    let a = spans_at p end at c.args.spans.now c.index-spans-at.result c.as_slice.result.now x.there.1 c.requires.spans c.index-spans-at.is
    c.as_slice.ensures in
    let link = c.link_to-link.ensures p end a x.there.0 x.there.1 in
    let step = step_is p c.args.log.now c.in_ok-kept.kept c.as_slice-in-Some.result.now c.link_to-link.result _ _ c.in_ok-kept.ensures
    c.as_slice-in-Some.ensures link c.polled_link-step.ensures in
    let next = walk_on p c.requires.fits c.args.log.now c.requires.log end c.loop-next.links c.push.new.self c.loop-next.polls
    c.push_poll.new.polls at c.polled_link-step.result c.before_polled-next.result x step c.in_ok-push.ensures.ok
    c.in_ok-push_poll.ensures c.before_polled-next.ensures in
    let before = ap left c.in-Some.is in
    let now = next.1 in
    omega arith

pub loop-next-preserved : goal.loop-next-preserved
loop-next-preserved c =
    let p = c.args.plan.now in
    let end = clock_of (verdict p) in
    let at = c.in-Some.at in
    let x = subst (IsWalk p c.args.log.now end c.loop-next.links c.loop-next.polls) c.in-Some.is c.loop-next.invariant in
    let a = spans_at p end at c.args.spans.now c.index-spans-at.result c.as_slice.result.now x.there.1 c.requires.spans c.index-spans-at.is
    c.as_slice.ensures in
    let link = c.link_to-link.ensures p end a x.there.0 x.there.1 in
    let step = step_is p c.args.log.now c.in_ok-kept.kept c.as_slice-in-Some.result.now c.link_to-link.result _ _ c.in_ok-kept.ensures
    c.as_slice-in-Some.ensures link c.polled_link-step.ensures in
    (walk_on p c.requires.fits c.args.log.now c.requires.log end c.loop-next.links c.push.new.self c.loop-next.polls
    c.push_poll.new.polls at c.polled_link-step.result c.before_polled-next.result x step c.in_ok-push.ensures.ok
    c.in_ok-push_poll.ensures c.before_polled-next.ensures).0
