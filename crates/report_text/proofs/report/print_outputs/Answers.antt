use Rattle.std.proofs.Common.{Result, Ok, Err, OnErr}
use Rattle.report_text.proofs.LineLemmas.{begins_through}
use Rattle.report_text.proofs.report.print_outputs.Goals as goal

-- what holds anyhow holds after an error
anyhow : {T E P : Type 0} (r : Result T E) → P → OnErr r P
anyhow (Ok x) p = tt
anyhow (Err e) p = p

pub returns-in_err-print_output-clause-err : goal.returns-in_err-print_output-clause-err
returns-in_err-print_output-clause-err c =
    let since = c.in_err-print_output.ensures.err in
    let before = c.loop-channel.invariant.begins in
    anyhow c.from_residual.result (begins_through c.print_output.new.text c.loop-channel.text c.args.text.now since before)
