use Rattle.std.proofs.Common.{take}
use Rattle.stall_text.proofs.Polled.{Polled}
use Rattle.stall_text.proofs.polls.pollings.Given as goal

abbrev pub invariant-loop-access : goal.invariant-loop-access
invariant-loop-access l = Polled l.modules (take l.access-index l.log) l.pollings
