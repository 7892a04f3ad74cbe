use Rattle.std.proofs.Common.{◌≡◌, [], replicate}
use Rattle.session_plan.proofs.inputs.no_inputs.Given as goal

abbrev pub invariant-loop : goal.invariant-loop
invariant-loop l = l.inputs ≡ replicate l.counter []
