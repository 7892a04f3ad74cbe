use Rattle.std.proofs.Common.{ℕ, false, get_or, sym, ap, subst, ◌∙◌, List, Option}
use Rattle.std.proofs.lemmas.Bool.{both_ways}
use Rattle.sim_core.specs.{Plan, ModuleState, module_at, ModuleRun, Acts, MayRun, design, Engine, core_of, CanGoOn, core_in, IsCore}
use Rattle.sim_core.specs.{IsRunOf, IsHeldAlike, IsMember, IsOutOf}
use Rattle.event_timing.specs.{Core.Core, Actions.Action.Run}
use Rattle.engine_view.specs.Held.{Held}
use Rattle.sim_core.proofs.{Emission.may_go, QueryRoom.bodies_within, Stretching.ends_inside, Stretching.on_err}
use Rattle.sim_core.proofs.stretch.run_once.Goals.{In_ok-make_room, After-make_room}
use Rattle.sim_core.proofs.Lending as lending
use Rattle.sim_core.proofs.Roomed as roomed
use Rattle.sim_core.proofs.stretch.run_once.Goals as goal

-- with the replies to the newest step
module _ (c : After-make_room) {p : Plan} {runs : List (Option ModuleRun)}
    (o : IsOutOf p c.args.engine.now runs c.args.member.now.number c.args.run.now) where
  may : MayRun (design p) (core_in p c.args.engine.now) c.args.member.now.number
  may =
      may_go p (core_in p c.args.engine.now) c.args.member.now.number c.feed-fed.new.run o.inside (c.feed-fed.ensures.out p runs o).run_is
      (c.feed-fed.ensures.fed c.if-not-fed.false) (sym c.is_over.ensures ∙ c.if-is_over.false)

-- with room for the next mark
module _ (c : In_ok-make_room) where
  abbrev m : ℕ
  m = c.args.member.now.number

  abbrev s : Engine
  s = c.args.engine.now

  abbrev t : Engine
  t = c.make_room.new.self

  same : IsHeldAlike s t
  same = lending.held_same s t c.make_room.ensures.same.lanes c.make_room.ensures.same.channels c.make_room.ensures.same.logs
      c.make_room.ensures.same.ends

  module _ {p : Plan} {runs : List (Option ModuleRun)} (o : IsOutOf p s runs m c.args.run.now)
      (k : IsMember p m c.args.member.now.ports.now c.args.member.now.body) where
    fed : IsOutOf p s runs m c.feed-fed.new.run
    fed = c.feed-fed.ensures.out p runs o

    core : IsCore p t runs
    core = roomed.core fed.core m fed.inside _ k.ports_are t c.make_room.ensures.same c.make_room.ensures.room

    run_is : IsRunOf p (core_in p t) m c.feed-fed.new.run
    run_is = subst (λ (x : Core ModuleState). IsRunOf p x m c.feed-fed.new.run) (sym (ap (core_of (design p)) same)) fed.run_is

    ready : CanGoOn p t runs m c.feed-fed.new.run
    ready = record {
      room = record {
        core = core;
        lent = fed.lent;
        places = c.in_ok-make_room.ensures.credit;
        outcomes = bodies_within (module_at p m) _ _ c.in_ok-make_room.ensures.queries k.bodies_are;
      };
      inside = fed.inside;
      run_is = run_is;
      answered = c.feed-fed.ensures.fed c.if-not-fed.false;
      lives = ap (λ (h : Held). get_or h.over m false) same ∙ (sym c.is_over.ensures ∙ c.if-is_over.false);
    }

pub is_over-requires : goal.is_over-requires
is_over-requires c = let (p, (runs, (o, k))) = c.requires.out in ends_inside o.core o.inside

pub feed-fed-requires : goal.feed-fed-requires
feed-fed-requires c = let (p, (runs, (o, k))) = c.requires.out in record { out = (p, (runs, o)) }

pub make_room-requires : goal.make_room-requires
make_room-requires c =
    let (p, (runs, (o, k))) = c.requires.out in
    record {
      owner = roomed.has_module o.core c.args.member.now.number o.inside _ k.ports_are;
      ports = roomed.ports_inside o.core c.args.member.now.number o.inside _ k.ports_are;
    }

pub emit_mark-requires : goal.emit_mark-requires
emit_mark-requires c =
    let at = (goal.at.emit_mark-requires c).In_ok-make_room in
    let (p, (runs, (o, k))) = c.requires.out in
    (p, (runs, ready at o k))

pub returns-then-is_over-clause-not_permitted : goal.returns-then-is_over-clause-not_permitted
returns-then-is_over-clause-not_permitted c = λ e p runs o may. both_ways _ may.lives (sym c.is_over.ensures ∙ c.if-is_over.true)

pub returns-then-not-fed-clause-not_permitted : goal.returns-then-not-fed-clause-not_permitted
returns-then-not-fed-clause-not_permitted c = λ e p runs o.
    c.feed-fed.ensures.not_fed c.if-not-fed.true p runs o

pub returns-in_err-make_room-clause-out : goal.returns-in_err-make_room-clause-out
returns-in_err-make_room-clause-out c = λ p runs (o, k).
    let fed = c.feed-fed.ensures.out p runs o in
    let t = c.make_room.new.self in
    let m = c.args.member.now.number in
    let same : IsHeldAlike c.args.engine.now t = lending.held_same c.args.engine.now t
    c.make_room.ensures.same.lanes c.make_room.ensures.same.channels c.make_room.ensures.same.logs
    c.make_room.ensures.same.ends in
    record {
      core = roomed.core fed.core m fed.inside _ k.ports_are t c.make_room.ensures.same c.make_room.ensures.room;
      inside = fed.inside;
      lent = fed.lent;
      run_is = subst (λ (x : Core ModuleState). IsRunOf p x m c.feed-fed.new.run) (sym (ap (core_of (design p)) same)) fed.run_is;
    }

pub returns-in_err-make_room-clause-no_memory : goal.returns-in_err-make_room-clause-no_memory
returns-in_err-make_room-clause-no_memory c =
    on_err c.from_residual.result
    (lending.held_same c.args.engine.now c.make_room.new.self c.make_room.ensures.same.lanes
    c.make_room.ensures.same.channels c.make_room.ensures.same.logs c.make_room.ensures.same.ends)

pub returns-in_err-make_room-clause-permitted : goal.returns-in_err-make_room-clause-permitted
returns-in_err-make_room-clause-permitted c =
    on_err c.from_residual.result
    (λ p runs (o, k). may (goal.at.returns-in_err-make_room-clause-permitted c).After-make_room o)

pub returns-in_err-emit_mark-clause-out : goal.returns-in_err-emit_mark-clause-out
returns-in_err-emit_mark-clause-out c = λ p runs (o, k).
    let at = (goal.at.returns-in_err-emit_mark-clause-out c).In_ok-make_room in
    record {
      core = rw c.in_err-emit_mark.ensures.unchanged (core at o k);
      inside = o.inside;
      lent = o.lent;
      run_is = c.emit_mark.ensures.run p runs (ready at o k);
    }

pub returns-in_err-emit_mark-clause-no_memory : goal.returns-in_err-emit_mark-clause-no_memory
returns-in_err-emit_mark-clause-no_memory c =
    let alike : IsHeldAlike c.args.engine.now c.emit_mark.new.engine =
    rw c.in_err-emit_mark.ensures.unchanged
    (same (goal.at.returns-in_err-emit_mark-clause-no_memory c).In_ok-make_room) in
    on_err c.from_residual-in_err-emit_mark.result alike

pub returns-in_err-emit_mark-clause-permitted : goal.returns-in_err-emit_mark-clause-permitted
returns-in_err-emit_mark-clause-permitted c =
    on_err c.from_residual-in_err-emit_mark.result
    (λ p runs (o, k). may (goal.at.returns-in_err-emit_mark-clause-permitted c).After-make_room o)

pub returns-clause-out : goal.returns-clause-out
returns-clause-out c = λ p runs (o, k).
    let at = (goal.at.returns-clause-out c).In_ok-make_room in
    record {
      core = (c.in_ok-emit_mark.ensures.emits p runs (ready at o k)).core;
      inside = o.inside;
      lent = o.lent;
      run_is = c.emit_mark.ensures.run p runs (ready at o k);
    }

pub returns-clause-acts : goal.returns-clause-acts
returns-clause-acts c = λ e p runs (o, k).
    let at = (goal.at.returns-clause-acts c).In_ok-make_room in
    subst (λ (x : Core ModuleState). Acts (design p) p.cycles x (Run c.args.member.now.number)
    (core_in p c.emit_mark.new.engine)) (ap (core_of (design p)) (same at))
    (c.in_ok-emit_mark.ensures.emits p runs (ready at o k)).acts
