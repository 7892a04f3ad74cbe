use Rattle.depth_advice.proofs.DepthLines.{IsPrinting}
use Rattle.depth_advice.proofs.depth_lines.print_depths.Given as goal

abbrev pub invariant-loop-at : goal.invariant-loop-at
invariant-loop-at l = IsPrinting l.fn.text l.text l.channels l.depths l.at
