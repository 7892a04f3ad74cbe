use Rattle.std.proofs.Common.{◌≡◌, ◌++◌, drop}
use Rattle.std.specs.List.{filter_map}
use Rattle.session_plan.specs.{edit}
use Rattle.session_plan.proofs.channels.edits_of.Given as goal

abbrev pub invariant-loop-statement : goal.invariant-loop-statement
invariant-loop-statement l = l.edits ++ filter_map (edit l.channels) (drop l.statement-index l.statements)
    ≡ filter_map (edit l.channels) l.statements
