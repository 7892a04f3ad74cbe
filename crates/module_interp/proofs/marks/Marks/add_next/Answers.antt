use Rattle.std.proofs.lemmas.Result.{IfOk-weaker}
use Rattle.module_interp.proofs.Parts.{emitted_from}
use Rattle.module_interp.proofs.marks.Marks.add_next.Goals as goal

pub returns-clause-emitted : goal.returns-clause-emitted
returns-clause-emitted c =
    IfOk-weaker c.add_whole.result _ _ (λ step e. emitted_from c.come.ensures.stands e) c.add_whole.ensures.emitted
