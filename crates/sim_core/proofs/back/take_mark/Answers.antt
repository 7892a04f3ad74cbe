use Rattle.std.proofs.Common.{◌≡◌, subst, suc, ◌+◌, ◌≤◌, ◌∷◌, List, length, drop, arith}
use Rattle.sim_core.specs.{few_step, IsFew, MarkHead, AreParts}
use Rattle.module_interp.specs.declared.marks.MarkHead.TheVariants.{Few, Whole}
use Rattle.flow_design.specs.declared.state.Advance.TheVariants.{Ended}
use Rattle.sim_core.proofs.InParts.{few_inside, few_marks, whole_inside, whole_parts, whole_marks}
use Rattle.sim_core.proofs.{Emitting.few_is, Returning.drop_after}
use Rattle.sim_core.proofs.back.take_mark.Goals.{In-Few, In-Whole, After-take_whole-mark}
use Rattle.sim_core.proofs.back.take_mark.Goals as goal

-- a step of few accesses comes next
module _ (c : In-Few) where
  few : (heads : List MarkHead)
      → AreParts (c.args.head.now ∷ heads) c.args.accesses.now.now (drop c.args.taken.now c.args.others.now.items)
      → AreParts (Few c.in-Few.gap c.in-Few.first_query c.in-Few.count ∷ heads) c.args.accesses.now.now
      (drop c.args.taken.now c.args.others.now.items)
  few heads parts =
      subst (λ (h : MarkHead). AreParts (h ∷ heads) c.args.accesses.now.now (drop c.args.taken.now c.args.others.now.items)) c.in-Few.is
      parts

  inside : (heads : List MarkHead)
      → AreParts (c.args.head.now ∷ heads) c.args.accesses.now.now (drop c.args.taken.now c.args.others.now.items)
      → (c.in-Few.count ≤ length c.args.accesses.now.now)
      × (IsFew (few_step c.in-Few.gap c.in-Few.first_query c.in-Few.count c.args.accesses.now.now)
      × AreParts heads (drop c.in-Few.count c.args.accesses.now.now) (drop c.args.taken.now c.args.others.now.items))
  inside heads parts = few_inside c.in-Few.gap c.in-Few.first_query c.in-Few.count heads c.args.accesses.now.now _ (few heads parts)

-- a mark that is kept whole comes next
module _ (c : In-Whole) where
  kept : (heads : List MarkHead)
      → AreParts (c.args.head.now ∷ heads) c.args.accesses.now.now (drop c.args.taken.now c.args.others.now.items)
      → AreParts (Whole ∷ heads) c.args.accesses.now.now (drop c.args.taken.now c.args.others.now.items)
  kept heads parts =
      subst (λ (h : MarkHead). AreParts (h ∷ heads) c.args.accesses.now.now (drop c.args.taken.now c.args.others.now.items)) c.in-Whole.is
      parts

left : (c : After-take_whole-mark)
    → drop (c.args.taken.now + 1) c.take_whole-mark.new.marks.items ≡ drop (suc c.args.taken.now) c.args.others.now.items
left c =
    let next : c.args.taken.now + 1 ≡ suc c.args.taken.now = omega arith in
    rw (next, c.take_whole-mark.ensures.marks) (drop_after c.args.others.now.items c.args.taken.now (Ended 0))

pub split_at-requires : goal.split_at-requires
split_at-requires c = let (heads, parts) = c.requires in (inside (goal.at.split_at-requires c).In-Few heads parts).0

pub returns-in-Few-clause-few : goal.returns-in-Few-clause-few
returns-in-Few-clause-few c =
    let (heads, parts) = c.requires in
    rw c.split_at.ensures.front (few_is (inside (goal.at.returns-in-Few-clause-few c).In-Few heads parts).1.0)

pub returns-in-Few-clause-parts : goal.returns-in-Few-clause-parts
returns-in-Few-clause-parts c = λ heads parts.
    rw c.split_at.ensures.back (inside (goal.at.returns-in-Few-clause-parts c).In-Few heads parts).1.1

pub returns-in-Few-clause-marks : goal.returns-in-Few-clause-marks
returns-in-Few-clause-marks c = λ heads parts. rw (c.in-Few.is, c.split_at.ensures.front, c.split_at.ensures.back)
    (few_marks c.in-Few.gap c.in-Few.first_query c.in-Few.count heads c.args.accesses.now.now _)

pub take_whole-mark-requires : goal.take_whole-mark-requires
take_whole-mark-requires c =
    let (heads, parts) = c.requires in
    whole_inside heads c.args.accesses.now.now c.args.others.now.items c.args.taken.now
    (kept (goal.at.take_whole-mark-requires c).In-Whole heads parts)

pub overflow_add-taken : goal.overflow_add-taken
overflow_add-taken c =
    let (heads, parts) = c.requires in
    let here = kept (goal.at.overflow_add-taken c).In-Whole heads parts in
    let less = whole_inside heads c.args.accesses.now.now c.args.others.now.items c.args.taken.now here in
    omega (arith, c.args.others.now.small)

pub returns-in-Whole-clause-parts : goal.returns-in-Whole-clause-parts
returns-in-Whole-clause-parts c = λ heads parts.
    let at = (goal.at.returns-in-Whole-clause-parts c).After-take_whole-mark in
    rw (left at) (whole_parts heads c.args.accesses.now.now c.args.others.now.items c.args.taken.now c.take_whole-mark.result
    c.take_whole-mark.ensures.mark (kept (goal.at.returns-in-Whole-clause-parts c).In-Whole heads parts))

pub returns-in-Whole-clause-marks : goal.returns-in-Whole-clause-marks
returns-in-Whole-clause-marks c = λ heads parts.
    let at = (goal.at.returns-in-Whole-clause-marks c).After-take_whole-mark in
    rw (c.in-Whole.is, left at) (whole_marks heads c.args.accesses.now.now c.args.others.now.items c.args.taken.now c.take_whole-mark.result
    c.take_whole-mark.ensures.mark)
