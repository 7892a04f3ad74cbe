use Rattle.std.proofs.Common.{ℕ, ◌≡◌, sym, subst, ◌∙◌, unwrap_or}
use Rattle.sim_core.specs.{EditFits, with_depth, IsFinal, design, IsEditFrom, core_of, Engine, held_in, lent_of, CoreView}
use Rattle.sim_core.proofs.EditedRuns.{channel_inside, fifo_there, edit_in}
use Rattle.sim_core.proofs.{Editing.IsRetiming, Turning.some_core, machine.Core.edit.Given.Over, machine.Core.edit.Goals.After-retime}
use Rattle.sim_core.proofs.Editing as editing
use Rattle.sim_core.proofs.machine.Core.edit.Goals as goal

pub depth-requires-clause-channel : goal.depth-requires-clause-channel
depth-requires-clause-channel g c =
    let k = c.self.invariant.core in
    let fit = rw (← c.self.view_is) at c.requires.fits in
    channel_inside c.self.inside.plan k.fits c.args.edit.now fit c.self.inside.engine.fifos.channels k.table

pub depth-requires-clause-fifo : goal.depth-requires-clause-fifo
depth-requires-clause-fifo g c =
    let k = c.self.invariant.core in
    let fit = rw (← c.self.view_is) at c.requires.fits in
    fifo_there c.self.inside.plan k.fits c.args.edit.now fit c.self.inside.engine.fifos.channels k.table

pub returns-then-depth-edit-clause-plan : goal.returns-then-depth-edit-clause-plan
returns-then-depth-edit-clause-plan g c =
    let fit = rw (← c.self.view_is) at c.requires.fits in
    let same = editing.same_plan c.self.invariant.core fit (sym c.depth.ensures.depth ∙ c.if-depth-edit.true) in
    subst (λ (v : CoreView). v.plan ≡ with_depth v.plan c.args.edit.now.channel c.args.edit.now.depth) c.self.view_is same

pub first_touched-from-requires-clause-edit : goal.first_touched-from-requires-clause-edit
first_touched-from-requires-clause-edit g c =
    let k = c.self.invariant.core in
    edit_in c.self.inside.plan k.fits c.args.edit.now (rw (← c.self.view_is) at c.requires.fits) c.self.inside.engine.fifos.channels k.table

pub first_touched-from-requires-clause-in_order : goal.first_touched-from-requires-clause-in_order
first_touched-from-requires-clause-in_order g c = editing.in_order c.self.invariant.core (rw (← c.self.view_is) at c.requires.fits)

pub change_few-requires-clause-edit : goal.change_few-requires-clause-edit
change_few-requires-clause-edit g c =
    let k = c.self.invariant.core in
    edit_in c.self.inside.plan k.fits c.args.edit.now (rw (← c.self.view_is) at c.requires.fits) c.self.inside.engine.fifos.channels k.table

pub change_few-requires-clause-core : goal.change_few-requires-clause-core
change_few-requires-clause-core g c = some_core c.self.invariant.core

-- ---- few cycles changed

pub invariant_of-self : goal.invariant_of-self
invariant_of-self g c =
    let fit = rw (← c.self.view_is) at c.requires.fits in
    let final = rw (← c.self.view_is) at c.requires.is_final in
    let core = editing.core_changed c.self.invariant.core fit final (c.change_few.ensures.changed c.if-change_few.true) in
    rw (c.edit_plan.ensures, c.truncate.ensures) (editing.stored_edited c.self.invariant c.args.edit.now c.change_few.new.engine core _
    c.fill.ensures.asking_room c.fill.ensures.asking c.fill.ensures.running_room c.fill.ensures.running
    c.fill.ensures.unlisted)

pub returns-then-change_few-clause-edited : goal.returns-then-change_few-clause-edited
returns-then-change_few-clause-edited g c =
    let fit = rw (← c.self.view_is) at c.requires.fits in
    let from = editing.edit_from c.self.invariant.core fit c.depth.ensures.depth c.depth.ensures.least c.if-depth-edit.false
    c.first_touched-from.result c.first_touched-from.ensures.some c.first_touched-from.ensures.none in
    rw (← c.self.view_is, c.edit_plan.ensures) (editing.is_changed c.self.invariant.core fit (rw (← c.self.view_is) at c.requires.is_final)
    (c.change_few.ensures.changed c.if-change_few.true) from (lent_of c.self.inside.runs.items) c.args.steps.now c.change_few.new.steps
    (c.change_few.ensures.ticked c.if-change_few.true) (c.change_few.ensures.few c.if-change_few.true))

-- ---- cycles are given anew

pub retime-requires-clause-edit : goal.retime-requires-clause-edit
retime-requires-clause-edit g c =
    let fit = rw (← c.self.view_is) at c.requires.fits in
    rw (c.change_few.ensures.same c.if-change_few.false)
    (edit_in c.self.inside.plan c.self.invariant.core.fits c.args.edit.now fit c.self.inside.engine.fifos.channels
    c.self.invariant.core.table)

pub retime-requires-clause-core : goal.retime-requires-clause-core
retime-requires-clause-core g c =
    rw (c.change_few.ensures.same c.if-change_few.false)
    (some_core c.self.invariant.core)

module _ (g : Over) (c : After-retime g) where
  abbrev before : Engine
  before = c.self.inside.engine

  abbrev after : Engine
  after = c.retime.new.engine

  abbrev clock : ℕ
  clock = unwrap_or c.first_touched-from.result c.self.inside.plan.cycles

  fit : EditFits c.self.inside.plan c.args.edit.now
  fit = rw (← c.self.view_is) at c.requires.fits

  final : IsFinal (design c.self.inside.plan) c.self.inside.plan.cycles
      (core_of (design c.self.inside.plan) (held_in before))
  final = rw (← c.self.view_is) at c.requires.is_final

  from : IsEditFrom before.graph.lanes before.fifos.channels c.args.edit.now c.self.inside.plan.cycles clock
  from =
      editing.edit_from c.self.invariant.core fit c.depth.ensures.depth c.depth.ensures.least c.if-depth-edit.false
      c.first_touched-from.result c.first_touched-from.ensures.some c.first_touched-from.ensures.none

  retiming : IsRetiming c.retime.result c.args.edit.now clock c.self.inside.plan.cycles before after c.args.steps.now c.retime.new.steps
  retiming =
      editing.retiming_from (c.change_few.ensures.same c.if-change_few.false)
      (c.change_few.ensures.same_ticks c.if-change_few.false) (record {
        retimed = c.retime.ensures.retimed;
        steps = c.retime.ensures.steps_stay;
        core = c.retime.ensures.core;
        room = c.retime.ensures.room;
        kinds = c.retime.ensures.kinds;
        ticked = c.retime.ensures.ticks;
      })

pub invariant_of-self-2 : goal.invariant_of-self-2
invariant_of-self-2 g c =
    let core = editing.core_edited c.self.invariant.core (fit g c) (final g c) (from g c) (retiming g c) in
    rw (c.edit_plan.ensures, c.truncate.ensures, c.retime.ensures.hints) (editing.stored_edited c.self.invariant c.args.edit.now (after g c)
    core _ c.fill.ensures.asking_room c.fill.ensures.asking c.fill.ensures.running_room c.fill.ensures.running
    c.fill.ensures.unlisted)

pub returns-clause-edited : goal.returns-clause-edited
returns-clause-edited g c =
    rw (← c.self.view_is, c.edit_plan.ensures) (editing.is_edited c.self.invariant.core (fit g c) (final g c) (from g c) (retiming g c)
    (lent_of c.self.inside.runs.items))

pub returns-clause-differs : goal.returns-clause-differs
returns-clause-differs g c =
    rw c.edit_plan.ensures (editing.true_guard c.self.invariant.core (fit g c) (final g c) (from g c) (retiming g c)
    (lent_of c.self.inside.runs.items))
