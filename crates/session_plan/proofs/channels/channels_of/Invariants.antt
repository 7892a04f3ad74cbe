use Rattle.std.proofs.Common.{◌≡◌, ◌++◌, drop}
use Rattle.std.specs.List.{filter_map}
use Rattle.session_plan.specs.{channel}
use Rattle.session_plan.proofs.channels.channels_of.Given as goal

abbrev pub invariant-loop-statement : goal.invariant-loop-statement
invariant-loop-statement l = l.channels ++ filter_map channel (drop l.statement-index l.statements) ≡ filter_map channel l.statements
