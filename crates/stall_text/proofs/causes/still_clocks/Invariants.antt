use Rattle.std.proofs.Common.{take}
use Rattle.stall_text.proofs.Totals.{AreStill}
use Rattle.stall_text.proofs.causes.still_clocks.Given as goal

abbrev pub invariant-loop-span : goal.invariant-loop-span
invariant-loop-span l = AreStill l.side l.channels (take l.span-index l.spans) l.clocks
