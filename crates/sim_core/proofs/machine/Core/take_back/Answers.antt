use Rattle.std.proofs.Common.{ℕ, List, refl, ap, sym, subst, ◌<◌, false, length, slice_set, Option, arith}
use Rattle.sim_core.specs.{Plan, Advance, ModuleRun, marks_of, core_values, ActsAll, design, core_of, Engine, task_left, AreReturned}
use Rattle.sim_core.specs.{HasReturned, HasPlacesForMarks, core_in, IsCore, IsHeldAlike, IsMember, CoreView, theory_of}
use Rattle.engine_view.specs.Held.{Held}
use Rattle.sim_core.proofs.{QueryRoom.bodies_told, machine.Core.take_back.Goals.In_ok-make_room_for_marks}
use Rattle.event_timing.specs.Actions as actions
use Rattle.sim_core.proofs.Lends as lends
use Rattle.sim_core.proofs.Returning as returning
use Rattle.sim_core.proofs.Roomed as roomed
use Rattle.sim_core.proofs.machine.Core.take_back.Goals as goal

-- ---- with room for the burst

module _ (c : In_ok-make_room_for_marks) where
  abbrev p : Plan
  p = c.self.inside.plan

  abbrev runs : List (Option ModuleRun)
  runs = c.self.inside.runs.items

  abbrev t : Engine
  t = c.make_room_for_marks.new.engine

  inside : c.args.owner < length p.design.modules
  inside = rw (← c.self.view_is) at c.requires.owner

  member : IsMember p c.args.owner c.ports_of.result.now c.body_length.result
  member = roomed.member c.self.invariant.wired c.args.owner inside c.ports_of.ensures c.body_length.ensures

  same : IsHeldAlike c.self.inside.engine t
  same = c.make_room_for_marks.ensures.alike

  core : IsCore p t runs
  core = c.make_room_for_marks.ensures.core p runs (c.self.invariant.core, member)

  -- the burst can come back
  returned : AreReturned p t runs c.args.owner c.args.burst.emitted (task_left c.args.burst)
  returned =
      returning.are_returned c.self.inside.engine same core (rw (← c.self.view_is) at c.requires.lent)
      (subst (HasPlacesForMarks p t c.args.owner) c.into_parts-marks.ensures.marks
      (c.in_ok-make_room_for_marks.ensures.places p runs (c.self.invariant.core, member)))
      (bodies_told p c.self.invariant.wired.bodies_are c.args.owner inside c.body_length.ensures
      c.in_ok-make_room_for_marks.ensures.queries)
      (rw (← c.self.view_is) at c.requires.burst)

  -- in its parts too
  in_parts : AreReturned p t runs c.args.owner (marks_of c.into_parts-marks.result) (task_left c.args.burst)
  in_parts =
      subst (λ (marks : List Advance). AreReturned p t runs c.args.owner marks (task_left c.args.burst))
      (sym c.into_parts-marks.ensures.marks) returned

  all_back : (u : Engine) → HasReturned p t u runs c.args.owner (length (marks_of c.into_parts-marks.result)) (task_left c.args.burst)
      → HasReturned p t u runs c.args.owner (length c.args.burst.emitted) (task_left c.args.burst)
  all_back u =
      subst (λ (marks : List Advance). HasReturned p t u runs c.args.owner (length marks) (task_left c.args.burst))
      c.into_parts-marks.ensures.marks

  -- where an engine is after Runs from there, it is after them from here
  acts_here : (u : Engine) (count : ℕ)
      → ActsAll (design p) p.cycles (core_in p t) (actions.runs count c.args.owner) (core_in p u)
      → ActsAll (design p) p.cycles (core_in p c.self.inside.engine) (actions.runs count c.args.owner) (core_in p u)
  acts_here u count acts =
      subst (λ (h : Held). ActsAll (design p) p.cycles (core_of (design p) h) (actions.runs count c.args.owner) (core_in p u)) same
      acts

-- ---- the calls

pub ports_of-requires : goal.ports_of-requires
ports_of-requires c =
    let a = rw (← c.self.view_is) at c.requires.owner in let n = c.self.invariant.wired.ports_are.count in omega arith

pub beside-beside-requires : goal.beside-beside-requires
beside-beside-requires c =
    let a = rw (← c.self.view_is) at c.requires.owner in let n = c.self.invariant.wired.beside_are.count in omega arith

pub body_length-requires : goal.body_length-requires
body_length-requires c =
    let a = rw (← c.self.view_is) at c.requires.owner in let n = c.self.invariant.wired.bodies_are.count in omega arith

pub make_room_for_marks-requires : goal.make_room_for_marks-requires
make_room_for_marks-requires c =
    let inside = rw (← c.self.view_is) at c.requires.owner in
    record {
      parts = c.into_parts-marks.ensures.parts;
      core = (
        c.self.inside.plan,
        (
          c.self.inside.runs.items,
          (c.self.invariant.core, roomed.member c.self.invariant.wired c.args.owner inside c.ports_of.ensures c.body_length.ensures),
        ),
      );
    }

pub invariant_of-self : goal.invariant_of-self
invariant_of-self c =
    let inside = rw (← c.self.view_is) at c.requires.owner in
    let member = roomed.member c.self.invariant.wired c.args.owner inside c.ports_of.ensures c.body_length.ensures in
    let t = c.make_room_for_marks.new.engine in
    let core = c.make_room_for_marks.ensures.core _ c.self.inside.runs.items (c.self.invariant.core, member) in
    let k = roomed.stored_alike c.self.invariant c.args.owner inside t c.make_room_for_marks.ensures.alike c.self.inside.runs.items core in
    roomed.stored_ran k c.args.owner inside t 0 refl c.self.inside.runs.items k.core c.self.inside.unread
    k.unread_are (record { asking = c.add.new.self; running = c.spread.new.set; unlisted = c.self.inside.due.unlisted }) c.add.ensures
    (rw c.beside-beside.ensures at c.spread.ensures) refl

pub record_all-requires-clause-returned : goal.record_all-requires-clause-returned
record_all-requires-clause-returned c =
    let there = (goal.at.record_all-requires-clause-returned c).In_ok-make_room_for_marks in
    (task_left c.args.burst, (p there, (runs there, in_parts there)))

pub invariant_of-self-2 : goal.invariant_of-self-2
invariant_of-self-2 c =
    let there = (goal.at.invariant_of-self-2 c).In_ok-make_room_for_marks in
    let last = task_left c.args.burst in
    let u = c.record_all.new.engine in
    let count = length c.args.burst.emitted in
    let had = all_back there u (c.record_all.ensures.returned last (p there) (runs there) (in_parts there)) in
    let acts = acts_here there u count had.acts in
    let unread = roomed.unread_ran c.self.invariant c.args.owner (inside there) u count acts in
    roomed.stored_ran c.self.invariant c.args.owner (inside there) u count acts (runs there) had.core c.keep_unread.new.unread
    (c.keep_unread.ensures (core_values (design (p there)) (core_in (p there) u)) (length (p there).design.channels) unread
    (λ channel within mine. lends.left_next had.core (inside there) had.left channel))
    (record { asking = c.add.new.self; running = c.spread.new.set; unlisted = c.self.inside.due.unlisted }) c.add.ensures
    (rw c.beside-beside.ensures at c.spread.ensures) refl

pub put_back-requires : goal.put_back-requires
put_back-requires c =
    let there = (goal.at.put_back-requires c).In_ok-make_room_for_marks in
    record {
      inside = inside there;
      lent = rw (← c.self.view_is) at c.requires.lent;
      run_is = (c.record_all.ensures.returned (task_left c.args.burst) (p there) (runs there) (in_parts there)).left.run;
    }

pub returns-clause-lent : goal.returns-clause-lent
returns-clause-lent c = rw c.put_back.ensures (ap (λ (v : CoreView). slice_set v.lent c.args.owner false) c.self.view_is)

pub returns-clause-acts : goal.returns-clause-acts
returns-clause-acts c =
    let there = (goal.at.returns-clause-acts c).In_ok-make_room_for_marks in
    let n = length c.args.burst.emitted in
    let u = c.record_all.new.engine in
    rw c.put_back.ensures
    (subst (λ (v : CoreView). ActsAll (design v.plan) v.plan.cycles (theory_of v) (actions.runs n c.args.owner) (core_in (p there) u))
    c.self.view_is
    (acts_here there u n
    (all_back there u (c.record_all.ensures.returned (task_left c.args.burst) (p there) (runs there) (in_parts there))).acts))
