use Rattle.std.proofs.Common.{take}
use Rattle.session_plan.proofs.Giving.{AreGiven}
use Rattle.session_plan.proofs.inputs.inputs_in.Given as goal

abbrev pub invariant-loop-statement : goal.invariant-loop-statement
invariant-loop-statement l = AreGiven l.names l.channels (take l.statement-index l.statements) l.inputs
