use Rattle.std.proofs.Common.{◌≡◌, refl, subst, ◌∙◌, suc, ◌+◌, ◌∷◌, List, [], length, drop, Option, arith}
use Rattle.std.proofs.lemmas.List.{drop_all}
use Rattle.sim_core.specs.{Plan, Advance, MarkHead, ModuleRun, Task, AreParts, marks_in, marks_of, next_mark, core_in, AreReturned}
use Rattle.sim_core.proofs.InParts.{no_heads, next_parts, next_marks}
use Rattle.sim_core.proofs.{Returning.IsReturningOn, back.record_all.Goals.After-take_mark-mark}
use Rattle.sim_core.proofs.Returning as returning
use Rattle.sim_core.proofs.back.record_all.Goals as goal

pub loop-head-init : goal.loop-head-init
loop-head-init c = record {
  lanes = refl;
  parts = rw (c.as_slice-head-items.ensures, c.as_slice-accesses.ensures) c.requires.parts;
  on = λ p out last t. rw (c.as_slice-head-items.ensures, c.as_slice-accesses.ensures) (returning.returning_first t);
}

pub take_mark-mark-requires : goal.take_mark-mark-requires
take_mark-mark-requires c =
    let heads = c.as_slice-head-items.result.now in
    let parts = next_parts heads c.loop-head.head-index _ c.loop-head-test.true _ _ c.loop-head.invariant.parts in
    (drop (suc c.loop-head.head-index) heads, parts)

-- the mark that was taken is the next one of those that are left
module _ (c : After-take_mark-mark) where
  abbrev heads : List MarkHead
  heads = drop (suc c.loop-head.head-index) c.as_slice-head-items.result.now

  abbrev left : List Advance
  left = marks_in heads c.take_mark-mark.new.accesses.now (drop c.take_mark-mark.new.taken c.take_mark-mark.new.others.items)

  parts : AreParts heads c.take_mark-mark.new.accesses.now (drop c.take_mark-mark.new.taken c.take_mark-mark.new.others.items)
  parts =
      c.take_mark-mark.ensures.parts heads
      (next_parts c.as_slice-head-items.result.now c.loop-head.head-index _ c.loop-head-test.true _ _ c.loop-head.invariant.parts)

  on : (p : Plan) (out : List (Option ModuleRun)) (last : Task)
      → (t : AreReturned p c.args.engine.now out c.args.owner (marks_of c.args.marks) last)
      → IsReturningOn p c.loop-head.engine out c.args.owner t.task.mail t.short last (next_mark c.take_mark-mark.result ∷ left)
      (core_in p c.args.engine.now) (length (marks_of c.args.marks))
  on p out last t =
      subst (λ (marks : List Advance). IsReturningOn p c.loop-head.engine out c.args.owner t.task.mail t.short last marks
      (core_in p c.args.engine.now) (length (marks_of c.args.marks)))
      (next_marks c.as_slice-head-items.result.now c.loop-head.head-index _ c.loop-head-test.true _ _
      ∙ c.take_mark-mark.ensures.marks heads
      (next_parts c.as_slice-head-items.result.now c.loop-head.head-index _ c.loop-head-test.true _ _ c.loop-head.invariant.parts))
      (c.loop-head.invariant.on p out last t)

pub record_mark-requires-clause-next : goal.record_mark-requires-clause-next
record_mark-requires-clause-next c =
    let at = (goal.at.record_mark-requires-clause-next c).After-take_mark-mark in
    let (last, (p, (out, t))) = c.requires.returned in (p, (out, returning.next_mark (on at p out last t)))

pub loop-head-preserved : goal.loop-head-preserved
loop-head-preserved c =
    let at = (goal.at.loop-head-preserved c).After-take_mark-mark in
    let z : c.loop-head.head-index + 1 ≡ suc c.loop-head.head-index = omega arith in
    record {
      lanes = c.record_mark.ensures.lanes ∙ c.loop-head.invariant.lanes;
      parts = rw z (parts at);
      on = λ p out last t.
          let now = on at p out last t in
          let emits = c.record_mark.ensures.emits p out (returning.next_mark now) in
          rw z (returning.returning_more now c.record_mark.ensures.log emits.core emits.acts c.record_mark.ensures.credit
          c.record_mark.ensures.places c.record_mark.ensures.ports);
    }

pub returns : goal.returns
returns c =
    let none : drop c.loop-head.head-index c.as_slice-head-items.result.now ≡ [] =
    drop_all c.loop-head.head-index c.as_slice-head-items.result.now c.loop-head-test.false in
    record {
      returned = λ last p out t. record {
        core = (c.loop-head.invariant.on p out last t).room.core;
        left = returning.on_way_all p (core_in p c.loop-head.engine) c.args.owner t.task.mail t.short last
            (rw (no_heads _ _ none) at (c.loop-head.invariant.on p out last t).on);
        acts = returning.all_acts (rw (no_heads _ _ none) at (c.loop-head.invariant.on p out last t));
      };
      lanes = c.loop-head.invariant.lanes;
    }
