use Rattle.std.proofs.Common.{◌≡◌, ◌++◌, drop}
use Rattle.std.specs.List.{filter_map}
use Rattle.session_plan.specs.{memory}
use Rattle.session_plan.proofs.modules.memories_of.Given as goal

abbrev pub invariant-loop-statement : goal.invariant-loop-statement
invariant-loop-statement l = l.memories ++ filter_map memory (drop l.statement-index l.body) ≡ filter_map memory l.body
