use Rattle.std.proofs.Common.{◌≡◌, [], drop}
use Rattle.std.specs.List.{filter_map}
use Rattle.session_plan.specs.{terminator, scope_at}
use Rattle.session_plan.proofs.modules.next_of.Given as goal

-- no statement so far is a terminator
abbrev pub invariant-loop-statement : goal.invariant-loop-statement
invariant-loop-statement l =
    filter_map (terminator (scope_at [] l.own [])) (drop l.statement-index l.body) ≡ filter_map (terminator (scope_at [] l.own [])) l.body
