use Rattle.report_text.proofs.OutputLemmas.{IsPrinting}
use Rattle.report_text.proofs.report.print_outputs.Given as goal

abbrev pub invariant-loop-channel : goal.invariant-loop-channel
invariant-loop-channel l = IsPrinting l.fn.text l.text l.channels l.outputs l.channel-index l.at
