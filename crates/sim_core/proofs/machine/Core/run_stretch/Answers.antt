use Rattle.std.proofs.Common.{◌≡◌, sym, subst, ◌∙◌, ◌<◌, true, false, get_or, set, None, length, arith}
use Rattle.std.proofs.lemmas.List.{get_or_read}
use Rattle.sim_core.specs.{lent_of, IsMember, IsRunOut}
use Rattle.sim_core.proofs.{QueryRoom.bodies_told, machine.Core.run_stretch.Goals.After-index_mut}
use Rattle.sim_core.proofs.Stretching as stretching
use Rattle.sim_core.proofs.machine.Core.run_stretch.Goals as goal

pub ports_of-requires : goal.ports_of-requires
ports_of-requires c =
    let a = rw (← c.self.view_is) at c.requires.owner in let n = c.self.invariant.wired.ports_are.count in omega arith

pub body_length-requires : goal.body_length-requires
body_length-requires c =
    let a = rw (← c.self.view_is) at c.requires.owner in let n = c.self.invariant.wired.bodies_are.count in omega arith

pub beside-beside-requires : goal.beside-beside-requires
beside-beside-requires c =
    let a = rw (← c.self.view_is) at c.requires.owner in let n = c.self.invariant.wired.beside_are.count in omega arith

-- with its run out, and what is told of the module
module _ (c : After-index_mut) where
  inside : c.args.owner < length c.self.inside.plan.design.modules
  inside = rw (← c.self.view_is) at c.requires.owner

  here : get_or (lent_of c.self.inside.runs.items) c.args.owner true ≡ false
  here = rw (← c.self.view_is) at c.requires.here

  member : IsMember c.self.inside.plan c.args.owner c.ports_of.result.now c.body_length.result
  member = record {
    inside = inside;
    ports_are = c.ports_of.ensures ∙ c.self.invariant.wired.ports_are.each c.args.owner inside;
    bodies_are = bodies_told c.self.inside.plan c.self.invariant.wired.bodies_are c.args.owner inside c.body_length.ensures
        (omega arith);
  }

  out : IsRunOut c.self.inside.plan c.self.inside.engine (set c.self.inside.runs.items c.args.owner None)
      c.args.owner c.index_mut.result.now
  out =
      let within : c.args.owner < length c.self.inside.runs.items =
      let a = inside in let b = c.self.invariant.core.sound.lanes in let n = c.self.invariant.core.count in omega arith in
      subst (IsRunOut c.self.inside.plan c.self.inside.engine (set c.self.inside.runs.items c.args.owner None)
      c.args.owner)
      (sym (get_or_read c.self.inside.runs.items c.args.owner c.index_mut.result.now within c.index_mut.ensures.value None))
      (stretching.is_there c.self.invariant.core c.args.owner inside here)

pub run_held-ran-requires-clause-out : goal.run_held-ran-requires-clause-out
run_held-ran-requires-clause-out c =
    let at = (goal.at.run_held-ran-requires-clause-out c).After-index_mut in
    (c.self.inside.plan, (set c.self.inside.runs.items c.args.owner None, (out at, member at)))

pub invariant_of-self : goal.invariant_of-self
invariant_of-self c =
    let at = (goal.at.invariant_of-self c).After-index_mut in
    let p = c.self.inside.plan in
    let taken = set c.self.inside.runs.items c.args.owner None in
    stretching.stored_after c.self.invariant c.args.owner (inside at) (here at) c.run_held-ran.new.engine
    c.run_held-ran.new.held (c.run_held-ran.ensures.out p taken (out at, member at)) c.run_held-ran.result.runs
    (c.run_held-ran.ensures.acts p taken (out at, member at)) c.run_held-ran.ensures.none c.wake_ran.new.due c.wake_ran.ensures.none
    c.wake_ran.ensures.asking (rw c.beside-beside.ensures at c.wake_ran.ensures.running) c.wake_ran.ensures.unlisted

pub returns-clause-ran : goal.returns-clause-ran
returns-clause-ran c =
    let at = (goal.at.returns-clause-ran c).After-index_mut in
    let p = c.self.inside.plan in
    let taken = set c.self.inside.runs.items c.args.owner None in
    rw (← c.self.view_is) (stretching.has_run c.self.invariant c.args.owner (inside at) (here at) c.run_held-ran.new.engine
    c.run_held-ran.new.held (c.run_held-ran.ensures.out p taken (out at, member at))
    c.run_held-ran.result.runs (c.run_held-ran.ensures.acts p taken (out at, member at)) c.run_held-ran.ensures.none)

pub returns-clause-still : goal.returns-clause-still
returns-clause-still c = λ e.
    let at = (goal.at.returns-clause-still c).After-index_mut in
    c.run_held-ran.ensures.still e c.self.inside.plan (set c.self.inside.runs.items c.args.owner None) (out at, member at)

pub returns-clause-more : goal.returns-clause-more
returns-clause-more c = λ e.
    let at = (goal.at.returns-clause-more c).After-index_mut in
    c.run_held-ran.ensures.permitted e c.self.inside.plan (set c.self.inside.runs.items c.args.owner None) (out at, member at)
