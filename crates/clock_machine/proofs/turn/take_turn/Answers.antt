use Rattle.std.proofs.Common.{◌≡◌, ◌∙◌, ◌++◌, List, [], Bool, false, refl, sym, subst, arith}
use Rattle.std.proofs.lemmas.List.{append-nil}
use Rattle.clock_machine.specs.{HistoryStep, outcomes, HasDone, HasMoved, Round}
use Rattle.clock_machine.proofs.Sleeping.{sleeping, sleeps_on, stays, remembered_anew, remembered_sound}
use Rattle.clock_machine.proofs.Steps.{none_done, step_is}
use Rattle.clock_machine.proofs.turn.take_turn.Goals as goal

-- a step in which nothing is done
nothing : (keep : Bool) (round next : Round) (steps : List HistoryStep) → steps ≡ [] → next.traffic ≡ round.traffic
    → next.events ≡ round.events → HasDone keep round next steps
nothing keep round next steps e f g =
    let none = none_done keep round in
    subst (HasDone keep round next) (sym e) (record {
      traffic = subst (λ t. HasMoved round.traffic t []) (sym f) none.traffic;
      events = g ∙ none.events;
    })

untold : (answers : List Bool) (steps : List HistoryStep) → steps ≡ [] → answers ≡ answers ++ outcomes steps
untold answers steps e = rw e (sym (append-nil answers))

pub returns-then-at-memo-clause-moving : goal.returns-then-at-memo-clause-moving
returns-then-at-memo-clause-moving c =
    sym (sleeping c.args.at.now.of.now.plan.now c.args.at.now.clock c.args.i c.args.state.now c.args.memo.now c.requires.within
    c.requires.remembered c.if-at-memo.true).moving

pub returns-then-at-memo-clause-remembered : goal.returns-then-at-memo-clause-remembered
returns-then-at-memo-clause-remembered c =
    sleeps_on c.args.at.now.of.now.plan.now c.args.at.now.clock c.args.i c.args.state.now c.args.memo.now c.requires.within
    c.requires.remembered c.if-at-memo.true

pub returns-then-at-memo-clause-done : goal.returns-then-at-memo-clause-done
returns-then-at-memo-clause-done c =
    nothing c.args.at.now.keep c.args.round.now c.args.round.now _
    (sleeping c.args.at.now.of.now.plan.now c.args.at.now.clock c.args.i c.args.state.now c.args.memo.now c.requires.within
    c.requires.remembered c.if-at-memo.true).step refl refl

pub returns-then-at-memo-clause-answers : goal.returns-then-at-memo-clause-answers
returns-then-at-memo-clause-answers c =
    untold c.args.answers.now _
    (sleeping c.args.at.now.of.now.plan.now c.args.at.now.clock c.args.i c.args.state.now c.args.memo.now c.requires.within
    c.requires.remembered c.if-at-memo.true).step

pub returns-then-surely_stays-clause-moving : goal.returns-then-surely_stays-clause-moving
returns-then-surely_stays-clause-moving c = sym (c.surely_stays.ensures.stays c.if-surely_stays.true)

pub returns-then-surely_stays-clause-remembered : goal.returns-then-surely_stays-clause-remembered
returns-then-surely_stays-clause-remembered c =
    stays c.args.at.now.of.now.plan.now c.args.at.now.clock c.args.i c.args.state.now c.args.memo.now c.requires.within
    c.requires.remembered c.if-at-memo.false (c.surely_stays.ensures.stays c.if-surely_stays.true)

pub returns-then-surely_stays-clause-done : goal.returns-then-surely_stays-clause-done
returns-then-surely_stays-clause-done c =
    nothing c.args.at.now.keep c.args.round.now c.args.round.now _
    (step_is c.args.at.now.of.now.plan.now c.args.at.now.clock c.args.i false (c.surely_stays.ensures.stays c.if-surely_stays.true))
    refl refl

pub returns-then-surely_stays-clause-answers : goal.returns-then-surely_stays-clause-answers
returns-then-surely_stays-clause-answers c =
    untold c.args.answers.now _
    (step_is c.args.at.now.of.now.plan.now c.args.at.now.clock c.args.i false (c.surely_stays.ensures.stays c.if-surely_stays.true))

pub fill_memo-requires-clause-sound : goal.fill_memo-requires-clause-sound
fill_memo-requires-clause-sound c =
    let r = c.requires in
    remembered_sound c.args.at.now.of.now.plan.now r.runs.fits c.args.at.now.clock c.args.i c.args.state.now c.args.memo.now r.within
    r.remembered
    (c.surely_stays.ensures.running c.if-surely_stays.false)

pub fill_memo-requires-clause-small : goal.fill_memo-requires-clause-small
fill_memo-requires-clause-small c =
    let young = c.requires.remembered.young in
    let l = c.if-at-memo.false in
    let early = c.requires.runs.early in
    let cycles = c.requires.runs.fits.cycles in
    omega arith

pub fall_asleep-requires-clause-remembered : goal.fall_asleep-requires-clause-remembered
fall_asleep-requires-clause-remembered c =
    remembered_anew c.args.at.now.of.now.plan.now c.args.at.now.clock c.args.i c.args.state.now c.args.memo.now c.fill_memo.new.memo
    c.requires.remembered c.fill_memo.ensures.wakes c.in_ok-fill_memo.ensures.known
