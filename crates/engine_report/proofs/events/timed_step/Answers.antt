use Rattle.std.proofs.{Common.arith, lemmas.Option.unwrap_or-slice_get}
use Rattle.engine_report.proofs.events.timed_step.Goals as goal

pub returns : goal.returns
returns c = grind (arith, unwrap_or-slice_get)
