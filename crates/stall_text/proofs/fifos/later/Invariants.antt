use Rattle.std.proofs.Common.{◌≡◌, take}
use Rattle.stall_text.specs.{shifted}
use Rattle.stall_text.proofs.fifos.later.Given as goal

abbrev pub invariant-loop-clock : goal.invariant-loop-clock
invariant-loop-clock l = l.words ≡ shifted l.by (take l.clock-index l.clocks)
