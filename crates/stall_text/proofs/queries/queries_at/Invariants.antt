use Rattle.std.proofs.Common.{take}
use Rattle.stall_text.specs.{AreAsked}
use Rattle.stall_text.proofs.queries.queries_at.Given as goal

abbrev pub invariant-loop-access : goal.invariant-loop-access
invariant-loop-access l = AreAsked l.channels l.kind (take l.access-index l.log) l.queries
