use Rattle.std.proofs.Common.{◌∙◌, List, not, true, false, sym, ap, arith}
use Rattle.std.specs.List.{list_any}
use Rattle.clock_machine.specs.{Request, all_ready, stalls, state_at}
use Rattle.clock_machine.proofs.Moving.{over_stays, moves_by_stalls}
use Rattle.clock_machine.proofs.Sleeping.{asks_nothing, asked_in, runs_in, remembered_anew, remembered_sound}
use Rattle.clock_machine.proofs.asking.would_move.Goals as goal

pub returns-then-at-memo-clause-moving : goal.returns-then-at-memo-clause-moving
returns-then-at-memo-clause-moving c =
    let p = c.args.at.now.of.now.plan.now in
    sym (asks_nothing p 0 c.args.i (all_ready c.args.at.now.contents.now) (state_at p c.args.at.now.clock c.args.i)
    (c.requires.remembered.quiet 0 (let l = c.if-at-memo.true in omega arith)))

pub returns-then-is_over-clause-moving : goal.returns-then-is_over-clause-moving
returns-then-is_over-clause-moving c =
    let p = c.args.at.now.of.now.plan.now in
    let clock = c.args.at.now.clock in
    sym (over_stays p 0 (all_ready c.args.at.now.contents.now) (c.args.i, state_at p clock c.args.i)
    (runs_in p clock c.args.i c.args.state.now c.args.memo.now true c.requires.remembered c.if-at-memo.false
    (sym c.is_over.ensures ∙ c.if-is_over.true)))

pub fill_memo-requires-clause-sound : goal.fill_memo-requires-clause-sound
fill_memo-requires-clause-sound c =
    let r = c.requires in
    remembered_sound c.args.at.now.of.now.plan.now r.runs.fits c.args.at.now.clock c.args.i c.args.state.now c.args.memo.now r.within
    r.remembered
    (sym c.is_over.ensures ∙ c.if-is_over.false)

pub fill_memo-requires-clause-small : goal.fill_memo-requires-clause-small
fill_memo-requires-clause-small c =
    let young = c.requires.remembered.young in
    let l = c.if-at-memo.false in
    let early = c.requires.runs.early in
    let cycles = c.requires.runs.fits.cycles in
    omega arith

pub returns-clause-moving : goal.returns-clause-moving
returns-clause-moving c =
    let p = c.args.at.now.of.now.plan.now in
    let clock = c.args.at.now.clock in
    let i = c.args.i in
    let s = c.args.state.now in
    let memo = c.fill_memo.new.memo in
    let held = all_ready c.args.at.now.contents.now in
    let l = c.if-at-memo.false in
    let remembered = remembered_anew p clock i s c.args.memo.now memo c.requires.remembered c.fill_memo.ensures.wakes
    c.in_ok-fill_memo.ensures.known in
    let asked = c.as_slice.ensures ∙ asked_in p clock i s memo remembered (omega (arith, c.fill_memo.ensures.wakes))
    c.in_ok-fill_memo.ensures.all in
    ap not (c.any_stalls_ever.ensures ∙ ap (λ (rs : List Request). list_any (stalls p 0 held) rs) asked)
    ∙ sym (moves_by_stalls p 0 held (i, state_at p clock i)
    (runs_in p clock i s c.args.memo.now false c.requires.remembered l (sym c.is_over.ensures ∙ c.if-is_over.false)))

pub returns-clause-remembered : goal.returns-clause-remembered
returns-clause-remembered c =
    remembered_anew c.args.at.now.of.now.plan.now c.args.at.now.clock c.args.i c.args.state.now c.args.memo.now c.fill_memo.new.memo
    c.requires.remembered c.fill_memo.ensures.wakes c.in_ok-fill_memo.ensures.known
