use Rattle.std.proofs.Common.{◌≡◌, ◌++◌, drop}
use Rattle.std.specs.List.{filter_map}
use Rattle.session_plan.specs.{declared_width}
use Rattle.session_plan.proofs.modules.widths_of.Given as goal

abbrev pub invariant-loop-statement : goal.invariant-loop-statement
invariant-loop-statement l = l.widths ++ filter_map (declared_width l.sort) (drop l.statement-index l.body)
    ≡ filter_map (declared_width l.sort) l.body
