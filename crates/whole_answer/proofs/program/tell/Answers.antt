use Rattle.whole_answer.proofs.ReportsTold.{appends_kept, whole_prefix, tells_fault}
use Rattle.whole_answer.proofs.program.tell.Goals as goal

pub returns-in-Err-clause-told : goal.returns-in-Err-clause-told
returns-in-Err-clause-told g c =
    let text = c.args.whole.now.text in
    let written = rw c.as_slice.ensures at c.in-Ok.ensures.ok in
    tells_fault c.args.whole.now _ _ _ (whole_prefix _ _ text (appends_kept _ _ _ text written c.finish.ensures.bytes))
