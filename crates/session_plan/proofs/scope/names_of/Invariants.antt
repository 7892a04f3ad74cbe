use Rattle.std.proofs.Common.{◌≡◌, ◌++◌, drop}
use Rattle.std.specs.List.{filter_map}
use Rattle.session_plan.specs.Sections.{declared}
use Rattle.session_plan.proofs.scope.names_of.Given as goal

-- the names so far, and those of the statements left, are all
abbrev pub invariant-loop-statement : goal.invariant-loop-statement
invariant-loop-statement l = l.names ++ filter_map (declared l.sort) (drop l.statement-index l.statements)
    ≡ filter_map (declared l.sort) l.statements
