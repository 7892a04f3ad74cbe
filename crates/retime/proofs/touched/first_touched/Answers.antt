use Rattle.std.proofs.Common.{◌≡◌, sym, ◌∙◌, ◌+◌, ◌-◌, ◌≤◌, None, arith}
use Rattle.flow_word.specs.declared.access.Side.TheVariants.{Push}
use Rattle.retime.specs.{channel_at, places_of, clock_at}
use Rattle.retime.proofs.Events.{push_at, pop_at}
use Rattle.retime.proofs.Filling.{none_yet, no_push, first_of, never_of, one_more, none_of, later_than, all_before, bound_is}
use Rattle.retime.proofs.touched.first_touched.Goals.{
  in_default-event_cycle-via-in-Some-event_cycle+else-pop-push,
  in_default-event_cycle-via-in_default-event_cycle,
}
use Rattle.retime.proofs.touched.first_touched.Goals as goal

pub loop-before-init : goal.loop-before-init
loop-before-init c =
    let some : 1 ≤ c.min-full.result = omega (arith, c.min-full.ensures, c.requires.edit.least, c.depth-stands.ensures.least) in
    none_yet c.args.graph.now.lanes (channel_at c.args.fifos.now.channels c.args.edit.now.channel) c.min-full.result _
    c.stays_sound.ensures c.requires.in_order some (omega arith)

pub returns-in_default-clause-none : goal.returns-in_default-clause-none
returns-in_default-clause-none c = λ e.
    let ch = channel_at c.args.fifos.now.channels c.args.edit.now.channel in
    let lanes = c.args.graph.now.lanes in
    let none : clock_at lanes (places_of Push ch) ((c.loop-before.before + 1) - 1) ≡ None =
    none_of _ (λ v q. c.in_default.not-Some v (push_at lanes ch (c.loop-before.before + 1) c.event_cycle.result c.requires.edit.is_fifo
    c.event_cycle.ensures.cycle ∙ q)) in
    never_of lanes ch c.min-full.result (c.loop-before.before + 1) c.loop-before.invariant c.args.edit.now.depth
    (omega (arith, c.min-full.ensures, c.depth-stands.ensures.depth))
    (no_push lanes ch c.min-full.result (c.loop-before.before + 1) c.loop-before.invariant (omega arith) none)

pub overflow_add-waiting : goal.overflow_add-waiting
overflow_add-waiting c =
    let ch = channel_at c.args.fifos.now.channels c.args.edit.now.channel in
    let at = sym (push_at c.args.graph.now.lanes ch (c.loop-before.before + 1) c.event_cycle.result c.requires.edit.is_fifo
    c.event_cycle.ensures.cycle) ∙ c.in-Some.is in
    omega (arith, c.loop-before.invariant.bounded _ _ at, bound_is, c.depth-stands.ensures.most)

pub overflow_add-waiting-in-loop-before : goal.overflow_add-waiting-in-loop-before
overflow_add-waiting-in-loop-before c =
    let ch = channel_at c.args.fifos.now.channels c.args.edit.now.channel in
    let at = sym (push_at c.args.graph.now.lanes ch (c.loop-before.before + 1) c.event_cycle.result c.requires.edit.is_fifo
    c.event_cycle.ensures.cycle) ∙ c.in-Some.is in
    omega (arith, c.loop-before.invariant.bounded _ _ at, bound_is, c.depth-stands.ensures.most)

pub returns-in_default-event_cycle-clause-some : goal.returns-in_default-event_cycle-clause-some
returns-in_default-event_cycle-clause-some c =
    let ch = channel_at c.args.fifos.now.channels c.args.edit.now.channel in
    let lanes = c.args.graph.now.lanes in
    let at = sym (push_at lanes ch (c.loop-before.before + 1) c.event_cycle.result c.requires.edit.is_fifo c.event_cycle.ensures.cycle)
    ∙ c.in-Some.is in
    let pop = pop_at lanes ch ((c.loop-before.before + 1) - c.min-full.result) c.depth-stands.result _ c.event_cycle-in-loop-before.result
    c.requires.edit.is_fifo c.depth-stands.ensures.depth
    (omega (arith, c.loop-before.invariant.some, c.loop-before.auto.before)) c.event_cycle-in-loop-before.ensures.cycle in
    first_of lanes ch c.min-full.result (c.loop-before.before + 1) c.loop-before.invariant c.args.edit.now.depth c.in-Some.push
    (omega (arith, c.min-full.ensures, c.depth-stands.ensures.depth))
    (λ e. c.if-edit-stands.false (omega (arith, e, c.depth-stands.ensures.depth))) (omega (arith, c.loop-before.auto.before)) at
    (λ w here. elim c.in_default-event_cycle.branch [
      | in_default-event_cycle-via-in-Some-event_cycle+else-pop-push q ↦ later_than _ c.in-Some.push q.in-Some-event_cycle.pop w
          q.in-Some-event_cycle.is q.if-pop-push.false (pop ∙ here)
      | in_default-event_cycle-via-in_default-event_cycle q ↦ absurd (q.in_default-event_cycle.not-Some w (pop ∙ here))
    ])

pub loop-before-preserved : goal.loop-before-preserved
loop-before-preserved c =
    let ch = channel_at c.args.fifos.now.channels c.args.edit.now.channel in
    let lanes = c.args.graph.now.lanes in
    let at = sym (push_at lanes ch (c.loop-before.before + 1) c.event_cycle.result c.requires.edit.is_fifo c.event_cycle.ensures.cycle)
    ∙ c.in-Some.is in
    let pop = pop_at lanes ch ((c.loop-before.before + 1) - c.min-full.result) c.depth-stands.result _ c.event_cycle-in-loop-before.result
    c.requires.edit.is_fifo c.depth-stands.ensures.depth
    (omega (arith, c.loop-before.invariant.some, c.loop-before.auto.before)) c.event_cycle-in-loop-before.ensures.cycle in
    one_more lanes ch c.min-full.result (c.loop-before.before + 1) c.loop-before.invariant c.in-Some.push c.in-Some-event_cycle.pop
    (omega (arith, c.loop-before.auto.before)) at (sym pop ∙ c.in-Some-event_cycle.is) c.if-pop-push.true

pub returns-clause-none : goal.returns-clause-none
returns-clause-none c = λ e.
    let ch = channel_at c.args.fifos.now.channels c.args.edit.now.channel in
    never_of c.args.graph.now.lanes ch c.min-full.result (c.loop-before.before + 1) c.loop-before.invariant c.args.edit.now.depth
    (omega (arith, c.min-full.ensures, c.depth-stands.ensures.depth))
    (λ t. all_before c.args.graph.now.lanes (places_of Push ch) t (c.loop-before.before + 1)
    (omega (arith, c.loop-before-test.false, c.pushes-before-end.ensures)))
