use Rattle.std.proofs.Common.{refl, ap, List, length, Result, Ok, Err, IsOk, OnOk, arith}
use Rattle.flow_design.specs.declared.state.Advance.TheVariants.{Step}
use Rattle.module_interp.specs.{Access, IsFew}
use Rattle.module_interp.proofs.{Feeding.asked_stage, Sound.few_listed, Parts.IsOneMore, Parts.few_more}
use Rattle.module_interp.proofs.marks.Marks.add_few.Goals.{After-extend_from_slice}
use Rattle.module_interp.proofs.marks.Marks.add_few.Goals as goal

done : {T E P : Type 0} (r : Result T E) → IsOk r → OnOk r P → P
done (Ok v) is p = p
done (Err e) is p = cc

module _ (c : After-extend_from_slice) where
  few : IsFew (record { gap = c.gap.result; accesses = c.listed-accesses.result.now; first_query = c.queries.result })
  few =
      let (p, (i, (o, s))) = c.requires.stands in
      let asked = asked_stage _ c.list.ensures.waits in
      let some = c.requires.step.some in
      let most = c.requires.most in
      let gap = c.requires.gap in
      let count = c.list.ensures.count in
      let same_gap = c.list.ensures.gap in
      rw (c.gap.ensures, c.listed-accesses.ensures, c.queries.ensures.listed)
      (few_listed p i o c.list.new.self (c.list.ensures.stands p i o s) asked (omega arith) (omega arith) (omega arith))

  more : IsOneMore c.push_reserved.new.self.items c.extend_from_slice.new.self.items c.self.inside.others.items c.args.self.now
      (Step (record { gap = c.gap.result; accesses = c.listed-accesses.result.now; first_query = c.queries.result }))
  more =
      let room = c.in_ok-reserve-2.ensures.ok in
      let count = c.list.ensures.count in
      let listed = ap (λ (xs : List Access). length xs) c.listed-accesses.ensures in
      let added = done c.extend_from_slice.result (c.extend_from_slice.ensures.succeeds (omega arith)) c.extend_from_slice.ensures.ok in
      rw (c.push_reserved.ensures.items, added, c.reserve.ensures.items, c.reserve-2.ensures.items, ← c.self.view_is)
      (few_more c.self.inside.heads.items c.self.inside.accesses.items c.self.inside.others.items c.self.invariant c.gap.result
      c.queries.result c.listed-accesses.result.now few)

pub invariant_of-self-2 : goal.invariant_of-self-2
invariant_of-self-2 c = (more (goal.at.invariant_of-self-2 c).After-extend_from_slice).parts

pub returns-clause-emitted : goal.returns-clause-emitted
returns-clause-emitted c =
    let at = (goal.at.returns-clause-emitted c).After-extend_from_slice in
    record {
      mark = Step (record { gap = c.gap.result; accesses = c.listed-accesses.result.now; first_query = c.queries.result });
      added = (more at).marks;
      is = λ p i o s. rw (c.gap.ensures, c.listed-accesses.ensures, c.queries.ensures.listed) (c.list.ensures.mark p i o s);
      sound = λ p i o s. rw (c.gap.ensures, c.listed-accesses.ensures, c.queries.ensures.listed) (c.list.ensures.sound p i o s);
      kind = refl;
      waits = c.list.ensures.waits;
    }
