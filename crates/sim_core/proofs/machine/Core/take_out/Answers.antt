use Rattle.std.proofs.Common.{◌≡◌, refl, ◌<◌, sym, ◌∙◌, Some, None, length, slice_index_or, arith}
use Rattle.std.proofs.lemmas.List.{get_or_read}
use Rattle.sim_core.proofs.Lending as lending
use Rattle.sim_core.proofs.Lends as lends
use Rattle.sim_core.proofs.Roomed as roomed
use Rattle.sim_core.proofs.machine.Core.take_out.Goals as goal

pub invariant_of-self : goal.invariant_of-self
invariant_of-self c =
    roomed.stored_lent c.self.invariant c.args.owner (rw (← c.self.view_is) at c.requires) c.take.new.self
    (λ run e. let no : Some run ≡ None = sym e ∙ c.take.ensures.after in cc)

pub returns-clause-out : goal.returns-clause-out
returns-clause-out c =
    let inside = rw (← c.self.view_is) at c.requires in
    let within : c.args.owner < length c.self.inside.runs.items =
    let b = c.self.invariant.core.sound.lanes in let n = c.self.invariant.core.count in omega arith in
    let there : slice_index_or c.self.inside.runs.items c.args.owner None ≡ c.take.result =
    sym (c.take.ensures.value ∙ get_or_read c.self.inside.runs.items c.args.owner c.index_mut.result.now within
    c.index_mut.ensures.value None) in
    rw c.take.ensures.after (roomed.run_out c.self.invariant c.args.owner inside c.take.result there)

pub returns-clause-lent : goal.returns-clause-lent
returns-clause-lent c =
    lending.some_so c.take.result
    (rw (← c.self.view_is, c.take.ensures.after, lends.lent_more c.self.inside.runs.items c.args.owner) refl)
