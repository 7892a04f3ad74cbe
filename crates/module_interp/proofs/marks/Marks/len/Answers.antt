use Rattle.std.proofs.Common.{◌∙◌, sym, ap, length, List}
use Rattle.module_interp.specs.{Advance}
use Rattle.module_interp.proofs.Parts.{head_each}
use Rattle.module_interp.proofs.marks.Marks.len.Goals as goal

pub returns : goal.returns
returns c =
    c.len.ensures.value
    ∙ (sym (head_each c.self.inside.heads.items c.self.inside.accesses.items c.self.inside.others.items c.self.invariant)
    ∙ ap (λ (marks : List Advance). length marks) c.self.view_is)
