use Rattle.std.proofs.Common.{◌≡◌, ◌++◌, drop}
use Rattle.std.specs.List.{filter_map}
use Rattle.session_plan.specs.{timed}
use Rattle.session_plan.proofs.modules.operations_of.Given as goal

abbrev pub invariant-loop-statement : goal.invariant-loop-statement
invariant-loop-statement l = l.ops ++ filter_map (timed l.scope) (drop l.statement-index l.body) ≡ filter_map (timed l.scope) l.body
