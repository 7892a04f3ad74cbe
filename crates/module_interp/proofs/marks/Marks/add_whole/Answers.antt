use Rattle.std.proofs.Common.{◌∙◌, sym}
use Rattle.module_interp.proofs.{Parts.IsOneMore, Parts.whole_more, marks.Marks.add_whole.Goals.After-push_reserved-2}
use Rattle.module_interp.proofs.marks.Marks.add_whole.Goals as goal

more : (c : After-push_reserved-2)
    → IsOneMore c.push_reserved.new.self.items c.self.inside.accesses.items c.push_reserved-2.new.self.items c.args.self.now
    c.in_ok-mark.mark
more c =
    rw (
      c.push_reserved.ensures.items,
      c.push_reserved-2.ensures.items,
      c.reserve.ensures.items,
      c.reserve-2.ensures.items,
      ← c.self.view_is,
    ) (whole_more c.self.inside.heads.items c.self.inside.accesses.items c.self.inside.others.items c.self.invariant c.in_ok-mark.mark)

pub invariant_of-self-2 : goal.invariant_of-self-2
invariant_of-self-2 c = (more (goal.at.invariant_of-self-2 c).After-push_reserved-2).parts

pub returns-clause-emitted : goal.returns-clause-emitted
returns-clause-emitted c =
    let at = (goal.at.returns-clause-emitted c).After-push_reserved-2 in
    record {
      mark = c.in_ok-mark.mark;
      added = (more at).marks;
      is = c.in_ok-mark.ensures.mark;
      sound = c.in_ok-mark.ensures.sound;
      kind = sym c.is_step-step.ensures;
      waits = c.in_ok-mark.ensures.waits ∙ sym c.is_step-step.ensures;
    }
