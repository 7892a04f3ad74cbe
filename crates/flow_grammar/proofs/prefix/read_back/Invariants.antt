use Rattle.std.proofs.Common.{◌≡◌, ◌≤◌, drop, map, Some, length}
use Rattle.flow_grammar.specs.{trees_of}
use Rattle.flow_grammar.proofs.Trees.{views}
use Rattle.flow_grammar.proofs.prefix.read_back.Given as goal

abbrev pub invariant-loop-at : goal.invariant-loop-at
invariant-loop-at g l =
    (l.at ≤ length l.tokens) × (Some l.stack ≡ views (g.K.KnownNames.knows l.known) (trees_of (drop l.at (map (λ t. t.now) l.tokens))))

abbrev pub decreases-loop-at : goal.decreases-loop-at
decreases-loop-at g l = l.at
