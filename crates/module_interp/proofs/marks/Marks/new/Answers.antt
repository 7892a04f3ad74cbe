use Rattle.module_interp.proofs.Parts.{no_parts, no_marks}
use Rattle.module_interp.proofs.marks.Marks.new.Goals as goal

pub invariant_of-result : goal.invariant_of-result
invariant_of-result c = rw (c.new.ensures.items, c.new-2.ensures.items, c.new-3.ensures.items) no_parts

pub returns : goal.returns
returns c = rw (c.new.ensures.items, c.new-2.ensures.items, c.new-3.ensures.items) no_marks
