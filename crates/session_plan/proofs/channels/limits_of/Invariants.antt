use Rattle.std.proofs.Common.{◌≡◌, drop}
use Rattle.std.specs.List.{filter_map}
use Rattle.session_plan.specs.{limits}
use Rattle.session_plan.proofs.channels.limits_of.Given as goal

-- no statement so far gives limits
abbrev pub invariant-loop-statement : goal.invariant-loop-statement
invariant-loop-statement l = filter_map limits (drop l.statement-index l.statements) ≡ filter_map limits l.statements
