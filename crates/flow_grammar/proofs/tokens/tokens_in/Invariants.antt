use Rattle.std.proofs.Common.{◌≡◌, ◌++◌, length, map}
use Rattle.flow_grammar.specs.{tokens_of}
use Rattle.flow_grammar.proofs.tokens.tokens_in.Given as goal

abbrev pub invariant-loop-token : goal.invariant-loop-token
invariant-loop-token l = map (λ t. t.now) l.tokens.items ++ tokens_of l.rest ≡ tokens_of l.line

abbrev pub decreases-loop-token : goal.decreases-loop-token
decreases-loop-token l = length l.rest
