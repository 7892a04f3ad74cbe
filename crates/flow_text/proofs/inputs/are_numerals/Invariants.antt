use Rattle.std.proofs.Common.{length, map, ◌≡◌}
use Rattle.std.specs.List.{list_all}
use Rattle.flow_text.specs.{is_number}
use Rattle.flow_text.proofs.inputs.are_numerals.Given as goal

abbrev pub invariant-loop-rest : goal.invariant-loop-rest
invariant-loop-rest l = list_all is_number (map (λ t. t.now) l.rest) ≡ list_all is_number (map (λ t. t.now) l.tokens)

abbrev pub decreases-loop-rest : goal.decreases-loop-rest
decreases-loop-rest l = length l.rest
