use Rattle.std.proofs.Common.{◌∙◌, ◌<◌, ◌≤◌, ◌++◌, sym, ap, ap₂, subst, arith, ℕ, List, Option, length, slice_index, get_or, take}
use Rattle.std.specs.Prelude.{All, AllPairs}
use Rattle.flow_word.specs.declared.access.Side.TheVariants.{Pop, Push}
use Rattle.path_text.specs.{Channel, before, LoggedAccess, Find, missed_of, unmissed, if_some}
use Rattle.path_text.proofs.{Searched.no_access, Missed.missed_none, Missed.missed_next}
use Rattle.path_text.proofs.Found.{channels_inside, finds_all, finds_next, finds_none, front_there, kept_at, last_is_kept, moved_rise}
use Rattle.path_text.proofs.finds.finds.Goals as goal

pub moved_clocks-requires : goal.moved_clocks-requires
moved_clocks-requires c =
    subst (λ (cs : List Channel). All (λ (a : LoggedAccess). a.event.channel < length cs) c.args.log.now)
    (sym c.as_slice-channels.ensures) (channels_inside c.args.plan.now c.requires.fits c.args.log.now c.requires.log)

pub moved_clocks-requires-2 : goal.moved_clocks-requires-2
moved_clocks-requires-2 c =
    subst (λ (cs : List Channel). All (λ (a : LoggedAccess). a.event.channel < length cs) c.args.log.now)
    (sym c.as_slice-channels.ensures) (channels_inside c.args.plan.now c.requires.fits c.args.log.now c.requires.log)

pub loop-access-init : goal.loop-access-init
loop-access-init c = record {
  missed = missed_none (length c.as_slice-channels.result.now) c.in_ok-missed.missed c.in_ok-missed.ensures;
  found = finds_none c.args.plan.now c.args.log.now c.new-finds.result c.new-finds.ensures;
}

pub bounds-as_slice-channel : goal.bounds-as_slice-channel
bounds-as_slice-channel c =
    let inside = channels_inside c.args.plan.now c.requires.fits c.args.log.now c.requires.log c.loop-access.access-index no_access
    c.loop-access-test.true in
    omega (arith, ap length c.as_slice.ensures, c.in_ok-pops.ensures.count, ap length c.as_slice-channels.ensures)

pub bounds-as_slice-channel-in-loop-access : goal.bounds-as_slice-channel-in-loop-access
bounds-as_slice-channel-in-loop-access c =
    let inside = channels_inside c.args.plan.now c.requires.fits c.args.log.now c.requires.log c.loop-access.access-index no_access
    c.loop-access-test.true in
    omega (
      arith,
      ap length c.as_slice-in-loop-access.ensures,
      c.in_ok-pushes.ensures.count,
      ap length c.as_slice-channels.ensures,
    )

pub bounds-as_slice-channel-in-loop-access-2 : goal.bounds-as_slice-channel-in-loop-access-2
bounds-as_slice-channel-in-loop-access-2 c =
    let inside = channels_inside c.args.plan.now c.requires.fits c.args.log.now c.requires.log c.loop-access.access-index no_access
    c.loop-access-test.true in
    omega (
      arith,
      ap length c.as_slice-in-loop-access-2.ensures,
      c.loop-access.invariant.missed.count,
      ap length c.as_slice-channels.ensures,
    )

pub find_of-requires-clause-channel : goal.find_of-requires-clause-channel
find_of-requires-clause-channel c =
    channels_inside c.args.plan.now c.requires.fits c.args.log.now c.requires.log c.loop-access.access-index no_access
    c.loop-access-test.true

pub find_of-requires-clause-in_order : goal.find_of-requires-clause-in_order
find_of-requires-clause-in_order c =
    let log = c.args.log.now in
    let inside = channels_inside c.args.plan.now c.requires.fits log c.requires.log c.loop-access.access-index no_access
    c.loop-access-test.true in
    let channels = ap length c.as_slice-channels.ensures in
    let f = (get_or log c.loop-access.access-index no_access).event.channel in
    let pops = kept_at log Pop c.in_ok-pops.pops c.as_slice.result.now f c.index-as_slice-channel.result c.index-as_slice-channel.is
    c.as_slice.ensures (omega (arith, c.in_ok-pops.ensures.count)) (c.in_ok-pops.ensures.each f (omega arith)) in
    subst (AllPairs (λ a b. a ≤ b)) (sym pops) (moved_rise c.args.plan.now log c.requires.log Pop f)

pub find_of-requires-clause-front : goal.find_of-requires-clause-front
find_of-requires-clause-front c hit =
    let log = c.args.log.now in
    let inside = channels_inside c.args.plan.now c.requires.fits log c.requires.log c.loop-access.access-index no_access
    c.loop-access-test.true in
    let channels = ap length c.as_slice-channels.ensures in
    let f = (get_or log c.loop-access.access-index no_access).event.channel in
    let pops = kept_at log Pop c.in_ok-pops.pops c.as_slice.result.now f c.index-as_slice-channel.result c.index-as_slice-channel.is
    c.as_slice.ensures (omega (arith, c.in_ok-pops.ensures.count)) (c.in_ok-pops.ensures.each f (omega arith)) in
    let pushes = kept_at log Push c.in_ok-pushes.pushes c.as_slice-in-loop-access.result.now f
    c.index-as_slice-channel-in-loop-access.result c.index-as_slice-channel-in-loop-access.is c.as_slice-in-loop-access.ensures
    (omega (arith, c.in_ok-pushes.ensures.count)) (c.in_ok-pushes.ensures.each f (omega arith)) in
    let there = front_there c.args.plan.now c.requires.fits log c.requires.log c.loop-access.access-index no_access
    c.loop-access-test.true hit in
    omega (arith, ap (λ (xs : List ℕ). before xs (get_or log c.loop-access.access-index no_access).event.cycle) pops, ap length pushes)

pub note-requires : goal.note-requires
note-requires c =
    let inside = channels_inside c.args.plan.now c.requires.fits c.args.log.now c.requires.log c.loop-access.access-index no_access
    c.loop-access-test.true in
    omega (arith, c.loop-access.invariant.missed.count, ap length c.as_slice-channels.ensures)

pub loop-access-preserved : goal.loop-access-preserved
loop-access-preserved c =
    let p = c.args.plan.now in
    let log = c.args.log.now in
    let k = c.loop-access.access-index in
    let l = c.loop-access-test.true in
    let x = c.loop-access.invariant in
    let channels = length c.as_slice-channels.result.now in
    let inside = channels_inside p c.requires.fits log c.requires.log k no_access l in
    let count = ap length c.as_slice-channels.ensures in
    let a = get_or log k no_access in
    let f = a.event.channel in
    let pops = kept_at log Pop c.in_ok-pops.pops c.as_slice.result.now f c.index-as_slice-channel.result c.index-as_slice-channel.is
    c.as_slice.ensures (omega (arith, c.in_ok-pops.ensures.count)) (c.in_ok-pops.ensures.each f (omega arith)) in
    let pushes = kept_at log Push c.in_ok-pushes.pushes c.as_slice-in-loop-access.result.now f
    c.index-as_slice-channel-in-loop-access.result c.index-as_slice-channel-in-loop-access.is c.as_slice-in-loop-access.ensures
    (omega (arith, c.in_ok-pushes.ensures.count)) (c.in_ok-pushes.ensures.each f (omega arith)) in
    record {
      missed = missed_next channels log k no_access c.loop-access.missed c.note.new.missed l (omega arith) x.missed c.note.ensures;
      found = finds_next p c.requires.fits log c.requires.log k no_access l c.loop-access.finds c.push_find.new.finds
          (missed_of (get_or c.as_slice-in-loop-access-2.result.now f unmissed) a.event.kind) _ x.found
          (λ s. last_is_kept channels (take k log) c.loop-access.missed c.as_slice-in-loop-access-2.result.now f a.event.kind x.missed
          (omega arith) c.as_slice-in-loop-access-2.ensures s)
          (ap₂ (λ (xs ys : List ℕ). slice_index ys (before xs a.event.cycle)) pops pushes)
          (c.in_ok-push_find.ensures ∙ ap (λ (o : Option Find). c.loop-access.finds ++ if_some o) c.find_of.ensures);
    }

pub returns : goal.returns
returns c =
    finds_all c.args.plan.now c.args.log.now c.loop-access.finds c.loop-access.access-index
    (omega (arith, c.loop-access-test.false, c.loop-access.auto.access-index-end)) c.loop-access.invariant.found
