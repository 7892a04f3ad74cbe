use Rattle.std.proofs.{Common.◌≡◌, Common.sym, Common.ap, Common.List, Common.Option, Common.arith, lemmas.Bool.true≢false}
use Rattle.sim_core.specs.{Plan, ModuleRun, MayAssign, design, Engine, kinds_in, HasTimed, core_in, IsHeldOf, TimesOn, view_in}
use Rattle.engine_view.specs.declared.turn.Timing.TheVariants.{Assigned, Answered, Differs, Nothing}
use Rattle.sim_core.proofs.{timings.time_once.Given.Over, timings.time_once.Goals.In-Answered, timings.time_once.Goals.After-assign_first}
use Rattle.sim_core.proofs.Stretched as stretched
use Rattle.sim_core.proofs.Turning as turning
use Rattle.sim_core.proofs.timings.time_once.Goals as goal

pub time_first-requires-clause-owner : goal.time_first-requires-clause-owner
time_first-requires-clause-owner g c =
    let (p, (runs, h)) = c.requires.held in let inside = h.inside in let lanes = h.core.sound.lanes in omega arith

pub time_first-requires-clause-limit : goal.time_first-requires-clause-limit
time_first-requires-clause-limit g c = let (p, (runs, h)) = c.requires.held in rw h.limited h.core.fits.cycles

pub time_first-requires-clause-core : goal.time_first-requires-clause-core
time_first-requires-clause-core g c = let (p, (runs, h)) = c.requires.held in turning.some_core h.core

-- after the Answer
module _ (g : Over) (c : In-Answered g) {p : Plan} {runs : List (Option ModuleRun)}
    (h : IsHeldOf p c.args.engine.now runs c.args.owner c.args.limit) where
  held : IsHeldOf p c.time_first.new.self runs c.args.owner c.args.limit
  held = stretched.held_after h c.time_first.new.self (Answered c.in-Answered.cycle) c.in-Answered.ensures.done c.in-Answered.ensures.room
      c.in-Answered.ensures.kinds c.in-Answered.ensures.less

  may : MayAssign (design p) p.cycles (core_in p c.time_first.new.self) c.args.owner c.in-Answered.cycle
  may = (stretched.has_turned h c.time_first.new.self (Answered c.in-Answered.cycle) c.in-Answered.ensures.done c.in-Answered.ensures.room
      c.in-Answered.ensures.kinds c.in-Answered.ensures.less).2

  answered : TimesOn (view_in p c.args.engine.now runs) c.args.steps.now c.args.owner 1 (view_in p c.time_first.new.self runs)
      c.time_first.new.steps
  answered = stretched.times_after h c.time_first.new.self (Answered c.in-Answered.cycle) c.in-Answered.ensures.done
      c.in-Answered.ensures.room c.in-Answered.ensures.kinds c.in-Answered.ensures.less c.args.steps.now c.time_first.new.steps
      c.in-Answered.ensures.ticks

pub assign_first-requires-clause-owner : goal.assign_first-requires-clause-owner
assign_first-requires-clause-owner g c =
    let at = (goal.at.assign_first-requires-clause-owner g c).In-Answered in
    let (p, (runs, h)) = c.requires.held in
    let k = held g at h in
    let inside = k.inside in let lanes = k.core.sound.lanes in omega arith

pub assign_first-requires-clause-may : goal.assign_first-requires-clause-may
assign_first-requires-clause-may g c =
    let at = (goal.at.assign_first-requires-clause-may g c).In-Answered in
    let (p, (runs, h)) = c.requires.held in stretched.may_take (held g at h) c.in-Answered.cycle (may g at h)

-- after the Assign
module _ (g : Over) (c : After-assign_first g) {p : Plan} {runs : List (Option ModuleRun)}
    (k : IsHeldOf p c.time_first.new.self runs c.args.owner c.args.limit)
    (may : MayAssign (design p) p.cycles (core_in p c.time_first.new.self) c.args.owner c.in-Answered.cycle) where
  timed : HasTimed (Assigned c.in-Answered.cycle) c.args.limit c.args.owner c.time_first.new.self c.assign_first.new.self
  timed = c.assign_first.ensures.done c.args.limit (rw k.limited may.determined.below)

  kinds : kinds_in c.assign_first.new.self.fifos.channels ≡ kinds_in c.time_first.new.self.fifos.channels
  kinds = ap (λ (e : Engine). kinds_in e.fifos.channels) c.assign_first.ensures.rest

  held_then : IsHeldOf p c.assign_first.new.self runs c.args.owner c.args.limit
  held_then = stretched.held_after k c.assign_first.new.self (Assigned c.in-Answered.cycle) timed c.assign_first.ensures.room kinds
      (λ e. c.assign_first.ensures.less)

  assigned : TimesOn (view_in p c.time_first.new.self runs) c.time_first.new.steps c.args.owner 0
      (view_in p c.assign_first.new.self runs) c.assign_first.new.steps
  assigned = stretched.times_after k c.assign_first.new.self (Assigned c.in-Answered.cycle) timed c.assign_first.ensures.room kinds
      (λ e. c.assign_first.ensures.less) c.time_first.new.steps c.assign_first.new.steps c.assign_first.ensures.ticks

pub returns-in-Answered-clause-held : goal.returns-in-Answered-clause-held
returns-in-Answered-clause-held g c = λ p runs h.
    let at = (goal.at.returns-in-Answered-clause-held g c).In-Answered in
    let after = (goal.at.returns-in-Answered-clause-held g c).After-assign_first in
    held_then g after (held g at h) (may g at h)

pub returns-in-Answered-clause-done : goal.returns-in-Answered-clause-done
returns-in-Answered-clause-done g c = λ p runs h.
    let at = (goal.at.returns-in-Answered-clause-done g c).In-Answered in
    let after = (goal.at.returns-in-Answered-clause-done g c).After-assign_first in
    stretched.times_join _ _ _ c.args.steps.now c.time_first.new.steps c.assign_first.new.steps c.args.owner 1 0 (answered g at h)
    (assigned g after (held g at h) (may g at h))

pub returns-in-Answered-clause-ticks : goal.returns-in-Answered-clause-ticks
returns-in-Answered-clause-ticks g c = λ e.
    let first = c.in-Answered.ensures.ticks in let then = c.assign_first.ensures.ticks in omega arith

pub returns-in-Assigned : goal.returns-in-Assigned
returns-in-Assigned g c = record {
  held = λ p runs h.
      stretched.held_after h c.time_first.new.self (Assigned c.in-Assigned.cycle) c.in-Assigned.ensures.done c.in-Assigned.ensures.room
      c.in-Assigned.ensures.kinds c.in-Assigned.ensures.less;
  done = λ p runs h.
      stretched.times_after h c.time_first.new.self (Assigned c.in-Assigned.cycle) c.in-Assigned.ensures.done
      c.in-Assigned.ensures.room c.in-Assigned.ensures.kinds c.in-Assigned.ensures.less c.args.steps.now c.time_first.new.steps
      c.in-Assigned.ensures.ticks;
  ends = c.in-Assigned.ensures.room.ends;
  ticks = λ e. c.in-Assigned.ensures.ticks;
}

pub returns-in-Differs : goal.returns-in-Differs
returns-in-Differs g c = record {
  held = λ p runs h.
      stretched.held_after h c.time_first.new.self (Differs c.in-Differs.query) c.in-Differs.ensures.done c.in-Differs.ensures.room
      c.in-Differs.ensures.kinds c.in-Differs.ensures.less;
  done = λ p runs h.
      stretched.times_after h c.time_first.new.self (Differs c.in-Differs.query) c.in-Differs.ensures.done c.in-Differs.ensures.room
      c.in-Differs.ensures.kinds c.in-Differs.ensures.less c.args.steps.now c.time_first.new.steps c.in-Differs.ensures.ticks;
  ends = c.in-Differs.ensures.room.ends;
  ticks = λ e. absurd (true≢false (sym e));
}

pub returns-in-Nothing : goal.returns-in-Nothing
returns-in-Nothing g c = record {
  held = λ p runs h.
      stretched.held_after h c.time_first.new.self Nothing c.in-Nothing.ensures.done c.in-Nothing.ensures.room
      c.in-Nothing.ensures.kinds c.in-Nothing.ensures.less;
  done = λ p runs h.
      stretched.times_after h c.time_first.new.self Nothing c.in-Nothing.ensures.done c.in-Nothing.ensures.room
      c.in-Nothing.ensures.kinds c.in-Nothing.ensures.less c.args.steps.now c.time_first.new.steps c.in-Nothing.ensures.ticks;
  ends = c.in-Nothing.ensures.room.ends;
  ticks = λ e. absurd (true≢false (sym e));
}
